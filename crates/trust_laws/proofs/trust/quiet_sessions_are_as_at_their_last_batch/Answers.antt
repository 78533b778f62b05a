use Rattle.trust_laws.proofs.Since.{as-at-batch}
use Rattle.trust_laws.proofs.trust.quiet_sessions_are_as_at_their_last_batch.Goals as goal

pub returns : goal.returns
returns c = as-at-batch
