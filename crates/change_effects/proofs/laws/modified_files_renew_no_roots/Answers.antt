use Rattle.std.proofs.Common.{◌∙◌}
use Rattle.change_effects.proofs.EffectLemmas.{flag_is, none_came, none_awaited}
use Rattle.change_effects.proofs.laws.modified_files_renew_no_roots.Goals as goal

pub returns-clause-roots : goal.returns-clause-roots
returns-clause-roots c = λ asked additional list all. none_came list all

pub returns-clause-fetch : goal.returns-clause-fetch
returns-clause-fetch c = λ asked additional list all. flag_is asked additional list ∙ none_awaited asked list all
