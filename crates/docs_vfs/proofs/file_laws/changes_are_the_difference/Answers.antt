use Rattle.docs_vfs.specs.Files.{new_files}
use Rattle.docs_vfs.proofs.KeptLaws.{set_keeps_taken, mark_keeps_taken}
use Rattle.docs_vfs.proofs.ChangeLaws.{nothing_taken, is_difference}
use Rattle.docs_vfs.proofs.file_laws.changes_are_the_difference.Goals as goal

pub returns : goal.returns
returns c = record {
  new = λ first path. nothing_taken (new_files first) path;
  set = set_keeps_taken;
  mark = mark_keeps_taken;
  take = nothing_taken;
  difference = is_difference;
}
