use Rattle.check_restarts.proofs.Marked.{restarts_are, restarts_only}
use Rattle.check_restarts.proofs.laws.what_restarts_follows_from_what_is_affected.Goals as goal

pub returns : goal.returns
returns c = record { is = restarts_are; only = restarts_only }
