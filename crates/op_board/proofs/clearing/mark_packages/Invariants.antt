use Rattle.std.proofs.Common.{◌≡◌}
use Rattle.std.specs.FinMap as map
use Rattle.op_board.specs.Checks.{mark_packages}
use Rattle.op_board.proofs.clearing.mark_packages.Given as goal

abbrev pub invariant-loop-row : goal.invariant-loop-row
invariant-loop-row l = mark_packages l.row-iterator l.marks ≡ mark_packages (map.values l.packages) l.fn.marks
