use Rattle.session_laws.proofs.Handing.{turns-over}
use Rattle.session_laws.proofs.laws.turns_hand_over_their_own_jobs.Goals as goal

pub returns : goal.returns
returns c = turns-over
