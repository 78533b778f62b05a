use Rattle.std.proofs.Common.{take}
use Rattle.check_restarts.specs.Walk.{Added}
use Rattle.check_restarts.proofs.dependents.add_to_each.Given as goal

abbrev pub invariant-loop-dep : goal.invariant-loop-dep
invariant-loop-dep l = Added l.initial.rows (take l.dep-index l.deps) l.number l.rows
