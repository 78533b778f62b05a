use Rattle.change_effects.proofs.EffectLemmas.{sources_unless_forced}
use Rattle.change_effects.proofs.laws.forced_fetches_check_no_sources.Goals as goal

pub returns : goal.returns
returns c = λ asked additional list. sources_unless_forced asked additional list
