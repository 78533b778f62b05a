use Rattle.session_model.specs.State.{fresh}
use Rattle.session_laws.proofs.Revising.{revisions-rise, turns-tell}
use Rattle.session_laws.proofs.laws.revisions_are_told_once_and_rise.Goals as goal

pub returns-clause-once : goal.returns-clause-once
returns-clause-once c = turns-tell

pub returns-clause-rise : goal.returns-clause-rise
returns-clause-rise c = λ meaning settings turns last runs. revisions-rise meaning (fresh settings) turns last runs
