use Rattle.shared_map.proofs.EntryLemmas.{length_set}
use Rattle.shared_map.proofs.laws.one_entry_more_or_less.Goals as goal

pub returns : goal.returns
returns g c = λ k value es order. length_set _ g.met.K.Ord.total k value es order
