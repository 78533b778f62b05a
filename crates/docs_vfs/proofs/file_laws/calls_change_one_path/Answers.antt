use Rattle.docs_vfs.proofs.KeptLaws.{set_changes, mark_changes}
use Rattle.docs_vfs.proofs.file_laws.calls_change_one_path.Goals as goal

pub returns : goal.returns
returns c = record { set = set_changes; mark = mark_changes }
