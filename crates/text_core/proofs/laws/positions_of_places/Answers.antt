use Rattle.text_core.proofs.PositionLemmas.{position_of_place}
use Rattle.text_core.proofs.laws.positions_of_places.Goals as goal

pub returns : goal.returns
returns c = position_of_place
