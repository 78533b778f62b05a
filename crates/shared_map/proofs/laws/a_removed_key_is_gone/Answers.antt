use Rattle.std.proofs.Common.{◌∙◌, ap}
use Rattle.std.specs.Prelude.{None, cond}
use Rattle.std.specs.Ordering.{is_eq}
use Rattle.std.specs.Cmp.{tied_itself}
use Rattle.std.specs.FinMap.Entries.{find}
use Rattle.shared_map.proofs.EntryLemmas.{find_set}
use Rattle.shared_map.proofs.laws.a_removed_key_is_gone.Goals as goal

pub returns : goal.returns
returns g c = λ k es order.
    find_set g.K.Ord.cmp g.met.K.Ord.total k k None es order
    ∙ ap (λ r. cond (is_eq r) None (find g.K.Ord.cmp k es)) (tied_itself g.met.K.Ord.total k)
