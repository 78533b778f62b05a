use Rattle.std.proofs.Common.{◌≡◌, ◌++◌}
use Rattle.std.specs.Slice.Iter.{iter_rest}
use Rattle.op_board.proofs.check_package.push_fixes.Given as goal

abbrev pub invariant-loop-fix : goal.invariant-loop-fix
invariant-loop-fix l = l.into ++ iter_rest l.fix-iterator ≡ l.fn.into ++ l.row.fixes
