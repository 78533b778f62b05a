use Rattle.activities.proofs.PrimingLaws.{one_runs, cancelled_is_due}
use Rattle.activities.proofs.laws.one_priming_runs.Goals as goal

pub returns : goal.returns
returns c = record { one = one_runs; again = cancelled_is_due }
