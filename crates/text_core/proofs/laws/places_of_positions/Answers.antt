use Rattle.text_core.proofs.PositionLemmas.{place_of_position, split_whole}
use Rattle.text_core.proofs.laws.places_of_positions.Goals as goal

pub returns : goal.returns
returns c = λ e text place utf8 is. place_of_position e text place (split_whole text place utf8 is)
