use Rattle.activities.proofs.CheckLaws.{of_set}
use Rattle.activities.specs.CheckRuns.{checks_after}
use Rattle.activities.proofs.laws.only_checks_that_are_set_restart.Goals as goal

pub returns : goal.returns
returns c = λ run call. of_set (checks_after run) call
