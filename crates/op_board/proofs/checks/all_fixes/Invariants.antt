use Rattle.std.proofs.Common.{◌≡◌, ◌++◌}
use Rattle.std.specs.List.{flat_map}
use Rattle.op_board.specs.Checks.{fixes_in, all_fixes}
use Rattle.op_board.proofs.checks.all_fixes.Given as goal

abbrev pub invariant-loop-packages : goal.invariant-loop-packages
invariant-loop-packages l = l.fixes ++ flat_map fixes_in l.packages-iterator ≡ all_fixes l.checks
