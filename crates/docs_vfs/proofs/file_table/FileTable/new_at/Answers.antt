use Rattle.docs_vfs.specs.Files.{new_files}
use Rattle.docs_vfs.proofs.NumberLaws.{none_numbered}
use Rattle.docs_vfs.proofs.TableLemmas.{same_numbered}
use Rattle.docs_vfs.proofs.file_table.FileTable.new_at.Goals as goal

pub invariant_of-result : goal.invariant_of-result
invariant_of-result c = same_numbered (new_files c.args.used) c.new.result c.new-2.result c.new-3.result c.new.ensures c.new-2.ensures c.new-3.ensures (none_numbered c.args.used)
