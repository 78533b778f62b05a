use Rattle.quiet_laws.proofs.HearingRuns.{told-by-lists}
use Rattle.quiet_laws.proofs.quiet.quiescence_is_told_by_the_lists.Goals as goal

pub returns : goal.returns
returns c = told-by-lists
