use Rattle.change_effects.proofs.RootLaws.{stays_at_no_root}
use Rattle.change_effects.proofs.settings_laws.values_at_no_root_stay.Goals as goal

pub returns : goal.returns
returns c = stays_at_no_root
