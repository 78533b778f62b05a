use Rattle.workspaces.proofs.FetchLaws.{stays_forced, flag_is}
use Rattle.workspaces.proofs.laws.force_is_kept.Goals as goal

pub returns-clause-waiting : goal.returns-clause-waiting
returns-clause-waiting c = λ since before none is. stays_forced since before none is

pub returns-clause-ended : goal.returns-clause-ended
returns-clause-ended c = λ run found. flag_is run
