use Rattle.std.proofs.Common.{take}
use Rattle.check_restarts.specs.Walk.{Reached}
use Rattle.check_restarts.proofs.walk.mark_each.Given as goal

abbrev pub invariant-loop-number : goal.invariant-loop-number
invariant-loop-number l = Reached (take l.number-index l.row) l.initial.marks l.initial.waiting l.marks l.waiting
