use Rattle.std.proofs.Common.{◌≡◌, ◌++◌, drop}
use Rattle.check_restarts.specs.Dependents.{picked}
use Rattle.check_restarts.proofs.affected.picked.Given as goal

abbrev pub invariant-loop-mark : goal.invariant-loop-mark
invariant-loop-mark l = l.list ++ picked (drop l.mark-index l.marks) l.rest ≡ picked l.marks l.paths
