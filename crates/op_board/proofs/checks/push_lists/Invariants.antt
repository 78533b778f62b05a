use Rattle.std.proofs.Common.{◌≡◌, ◌++◌}
use Rattle.std.specs.List.{flat_map}
use Rattle.op_board.specs.Checks.{list_in, lists_in}
use Rattle.op_board.proofs.checks.push_lists.Given as goal

abbrev pub invariant-loop-row : goal.invariant-loop-row
invariant-loop-row l = l.into ++ flat_map (list_in l.file) l.row-iterator ≡ l.fn.into ++ lists_in l.file l.packages
