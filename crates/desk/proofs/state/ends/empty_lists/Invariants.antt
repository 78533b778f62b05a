use Rattle.std.proofs.Common.{◌≡◌, ◌++◌, drop}
use Rattle.desk.specs.WorkEnds.{empty_lists}
use Rattle.desk.proofs.state.ends.empty_lists.Given as goal

abbrev pub invariant-loop-file : goal.invariant-loop-file
invariant-loop-file l = l.lists ++ empty_lists (drop l.file-index l.files) ≡ empty_lists l.files
