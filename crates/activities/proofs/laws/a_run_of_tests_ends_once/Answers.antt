use Rattle.activities.proofs.TestLaws.{run_ends, run_stops}
use Rattle.activities.proofs.laws.a_run_of_tests_ends_once.Goals as goal

pub returns : goal.returns
returns c = record { ends = run_ends; stops = run_stops }
