use Rattle.shared_map.proofs.EntryLemmas.{order_set}
use Rattle.shared_map.proofs.laws.keys_stay_in_order.Goals as goal

pub returns : goal.returns
returns g c = λ k value es order. order_set _ g.met.K.Ord.total k value es order
