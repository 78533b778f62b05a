use Rattle.change_effects.proofs.EffectLemmas.{settings_told}
use Rattle.change_effects.proofs.laws.settings_are_those_of_the_table.Goals as goal

pub returns : goal.returns
returns c = λ files asked additional. settings_told files
