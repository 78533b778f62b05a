use Rattle.small_analysis.proofs.NameLaws.{only_name, some_run}
use Rattle.small_analysis.proofs.laws.names_are_maximal_runs.Goals as goal

pub returns : goal.returns
returns c = record { some = some_run; name = only_name }
