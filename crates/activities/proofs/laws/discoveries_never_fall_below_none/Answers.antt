use Rattle.activities.proofs.DiscoveryLaws.{given_is, active_is_most, active_is_least, told_in_turn}
use Rattle.activities.proofs.laws.discoveries_never_fall_below_none.Goals as goal

pub returns : goal.returns
returns c = record { given = given_is; most = active_is_most; least = active_is_least; told = told_in_turn }
