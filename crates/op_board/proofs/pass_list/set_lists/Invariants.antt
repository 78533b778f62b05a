use Rattle.std.proofs.Common.{◌≡◌}
use Rattle.std.specs.Vec.Iter.{into_iter_items}
use Rattle.op_board.specs.Board.{set_lists}
use Rattle.op_board.proofs.pass_list.set_lists.Given as goal

abbrev pub invariant-loop-file : goal.invariant-loop-file
invariant-loop-file l =
    set_lists l.cleared l.generation (into_iter_items l.file-iterator) (l.lists, l.marks) ≡ set_lists l.cleared l.generation l.fn.given (l.fn.lists, l.fn.marks)
