use Rattle.activities.proofs.CheckLaws.{ids_rise}
use Rattle.activities.proofs.laws.ids_are_distinct_and_rise.Goals as goal

pub returns : goal.returns
returns c = ids_rise
