use Rattle.std.proofs.Common.{◌≡◌}
use Rattle.op_board.specs.Checks.{mark_package}
use Rattle.op_board.specs.Marked.{mark_all}
use Rattle.op_board.proofs.check_package.mark_package.Given as goal

abbrev pub invariant-loop-number : goal.invariant-loop-number
invariant-loop-number l = mark_all l.number-iterator l.marks ≡ mark_package l.row l.fn.marks
