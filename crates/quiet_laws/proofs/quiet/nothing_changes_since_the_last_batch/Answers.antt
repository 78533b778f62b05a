use Rattle.quiet_laws.proofs.Since.{batch-calm}
use Rattle.quiet_laws.proofs.quiet.nothing_changes_since_the_last_batch.Goals as goal

pub returns : goal.returns
returns c = batch-calm
