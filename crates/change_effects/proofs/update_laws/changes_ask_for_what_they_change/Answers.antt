use Rattle.change_effects.proofs.UpdateLaws.{asks}
use Rattle.change_effects.proofs.update_laws.changes_ask_for_what_they_change.Goals as goal

pub returns : goal.returns
returns c = λ old new. asks old new
