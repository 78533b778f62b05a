use Rattle.docs_vfs.proofs.RunLaws.{run_taken, run_difference}
use Rattle.docs_vfs.proofs.file_laws.runs_give_the_difference.Goals as goal

pub returns : goal.returns
returns c = record { taken = run_taken; difference = run_difference }
