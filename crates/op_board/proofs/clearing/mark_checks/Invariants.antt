use Rattle.std.proofs.Common.{◌≡◌}
use Rattle.std.specs.FinMap as map
use Rattle.op_board.specs.Checks.{mark_checks}
use Rattle.op_board.proofs.clearing.mark_checks.Given as goal

abbrev pub invariant-loop-packages : goal.invariant-loop-packages
invariant-loop-packages l = mark_checks l.packages-iterator l.marks ≡ mark_checks (map.values l.checks) l.fn.marks
