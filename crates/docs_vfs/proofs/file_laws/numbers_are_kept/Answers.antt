use Rattle.docs_vfs.proofs.NumberLaws.{none_numbered, set_numbers, mark_numbers, taken_numbered}
use Rattle.docs_vfs.proofs.file_laws.numbers_are_kept.Goals as goal

pub returns : goal.returns
returns c = record { new = none_numbered; set = set_numbers; mark = mark_numbers; take = taken_numbered }
