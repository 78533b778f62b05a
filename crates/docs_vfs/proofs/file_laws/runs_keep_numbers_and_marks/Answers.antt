use Rattle.docs_vfs.proofs.RunLaws.{set_steps, mark_steps, run_numbered, number_for_good, mark_for_good}
use Rattle.docs_vfs.proofs.NamedLaws.{run_named}
use Rattle.docs_vfs.proofs.file_laws.runs_keep_numbers_and_marks.Goals as goal

pub returns : goal.returns
returns c = record { set = set_steps; mark = mark_steps; inverse = run_numbered; order = run_named; numbers = number_for_good; marks = mark_for_good }
