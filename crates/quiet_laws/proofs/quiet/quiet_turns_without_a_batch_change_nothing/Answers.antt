use Rattle.quiet_laws.proofs.Calm.{turns-calm}
use Rattle.quiet_laws.proofs.quiet.quiet_turns_without_a_batch_change_nothing.Goals as goal

pub returns : goal.returns
returns c = turns-calm
