use Rattle.std.proofs.Common.{sym, ◌∙◌}
use Rattle.change_effects.proofs.EffectLemmas.{flag_is, cause_of, awaited_by}
use Rattle.change_effects.proofs.laws.forced_fetches_have_a_cause.Goals as goal

pub returns-clause-cause : goal.returns-clause-cause
returns-clause-cause c = λ asked additional list is. cause_of asked list (sym (flag_is asked additional list) ∙ is)

pub returns-clause-forced : goal.returns-clause-forced
returns-clause-forced c = λ asked additional list some. flag_is asked additional list ∙ awaited_by asked list some
