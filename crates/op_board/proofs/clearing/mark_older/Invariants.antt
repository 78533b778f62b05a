use Rattle.std.proofs.Common.{◌≡◌}
use Rattle.std.specs.FinMap as map
use Rattle.op_board.specs.Checks.{mark_dropped, older_than}
use Rattle.op_board.proofs.clearing.mark_older.Given as goal

abbrev pub invariant-loop-row : goal.invariant-loop-row
invariant-loop-row l =
    mark_dropped (older_than l.generation) l.row-iterator l.marks ≡ mark_dropped (older_than l.generation) (map.values l.packages) l.fn.marks
