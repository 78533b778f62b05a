use Rattle.activities.proofs.TestLaws.{run_waits}
use Rattle.activities.proofs.laws.a_run_of_tests_has_a_program_for_each_workspace.Goals as goal

pub returns : goal.returns
returns c = λ before since included excluded more none. run_waits before included excluded more since none
