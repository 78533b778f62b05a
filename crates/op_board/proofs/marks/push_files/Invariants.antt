use Rattle.std.proofs.Common.{◌≡◌, ◌+◌, ◌≤◌, ◌++◌, length}
use Rattle.std.specs.Vec.{vec_len, vec_capacity}
use Rattle.std.specs.FinMap as map
use Rattle.op_board.specs.Marked.{files_at}
use Rattle.op_board.proofs.marks.push_files.Given as goal

abbrev pub invariant-loop-number : goal.invariant-loop-number
invariant-loop-number l = record {
  list : l.list.items ++ files_at l.number-iterator ≡ l.initial.list.items ++ files_at (map.keys l.files);
  room : vec_len l.list + length l.number-iterator ≤ vec_capacity l.list;
}
