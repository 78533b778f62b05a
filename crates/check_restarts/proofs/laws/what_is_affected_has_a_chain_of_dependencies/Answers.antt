use Rattle.check_restarts.proofs.RoundLaws.{affected_is, affected_only}
use Rattle.check_restarts.proofs.laws.what_is_affected_has_a_chain_of_dependencies.Goals as goal

pub returns : goal.returns
returns c = record { is = affected_is; only = affected_only }
