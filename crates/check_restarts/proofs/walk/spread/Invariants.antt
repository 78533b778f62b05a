use Rattle.std.proofs.Common.{◌+◌, length, not}
use Rattle.std.specs.Prelude.{count_by}
use Rattle.check_restarts.specs.Walk.{WentOn}
use Rattle.check_restarts.proofs.walk.spread.Given as goal

abbrev pub invariant-loop-number : goal.invariant-loop-number
invariant-loop-number l = WentOn l.rows l.initial.marks l.initial.waiting l.marks l.waiting

-- each crate that is marked stops waiting once
abbrev pub decreases-loop-number : goal.decreases-loop-number
decreases-loop-number l = count_by not l.marks + length l.waiting
