use Rattle.change_effects.specs.Effects.{are_awaited}
use Rattle.change_effects.proofs.EffectLemmas.{renewal_asks}
use Rattle.change_effects.proofs.laws.renewed_roots_ask_for_a_fetch.Goals as goal

pub returns : goal.returns
returns c = λ asked additional list is. renewal_asks additional list is (are_awaited asked list)
