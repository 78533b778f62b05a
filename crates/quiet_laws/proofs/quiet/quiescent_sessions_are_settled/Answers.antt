use Rattle.quiet_laws.proofs.HearingRuns.{runs-settled}
use Rattle.quiet_laws.proofs.quiet.quiescent_sessions_are_settled.Goals as goal

pub returns : goal.returns
returns c = runs-settled
