use Rattle.std.proofs.Common.{◌≡◌, ◌++◌}
use Rattle.std.specs.List.{flat_map}
use Rattle.op_board.specs.Checks.{lists_in, checks_of}
use Rattle.op_board.proofs.checks.push_checks.Given as goal

abbrev pub invariant-loop-packages : goal.invariant-loop-packages
invariant-loop-packages l = l.into ++ flat_map (lists_in l.file) l.packages-iterator ≡ l.fn.into ++ checks_of l.file l.checks
