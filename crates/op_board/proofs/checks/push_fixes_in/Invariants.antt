use Rattle.std.proofs.Common.{◌≡◌, ◌++◌}
use Rattle.std.specs.List.{flat_map}
use Rattle.op_board.specs.Checks.{fixes_of, fixes_in}
use Rattle.op_board.proofs.checks.push_fixes_in.Given as goal

abbrev pub invariant-loop-row : goal.invariant-loop-row
invariant-loop-row l = l.into ++ flat_map fixes_of l.row-iterator ≡ l.fn.into ++ fixes_in l.packages
