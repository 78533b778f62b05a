use Rattle.shared_map.proofs.EntryLemmas.{find_set}
use Rattle.shared_map.proofs.laws.a_key_is_found_as_it_was_set.Goals as goal

pub returns : goal.returns
returns g c = λ q k value es order. find_set _ g.met.K.Ord.total q k value es order
