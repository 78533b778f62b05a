use Rattle.workspaces.proofs.FetchLaws.{old_does_nothing}
use Rattle.workspaces.proofs.laws.old_timers_change_nothing.Goals as goal

pub returns : goal.returns
returns c = λ run ticket other. old_does_nothing run ticket other
