use Rattle.std.proofs.Common.{take, length}
use Rattle.check_restarts.specs.Walk.{AreRows}
use Rattle.check_restarts.proofs.dependents.fill.Given as goal

abbrev pub invariant-loop-number : goal.invariant-loop-number
invariant-loop-number l = AreRows (length l.crates) (take l.number l.crates) l.rows
