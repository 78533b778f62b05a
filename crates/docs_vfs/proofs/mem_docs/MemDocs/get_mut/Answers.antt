use Rattle.std.proofs.Common.{refl, ap, ◌∙◌}
use Rattle.std.specs.Prelude.{Option, Some, None, OnSome}
use Rattle.std.specs.Borrow.{MutBor}
use Rattle.std.specs.FinMap as map
use Rattle.docs_vfs.specs.Documents.{Documents}
use Rattle.docs_vfs.proofs.mem_docs.MemDocs.get_mut.Goals as goal

where_some : {V P Q : Type 0} (r : Option (MutBor V)) → (P → Q) → OnSome r P → OnSome r Q
where_some None f p = tt
where_some (Some x) f p = f p

pub returns : goal.returns
returns c = (
  (
    refl,
    λ w. where_some c.get_mut.result
        (λ is. (λ i. record { docs = is i; changed = c.self.inside.changed }) ∙ ap (λ (d : Documents). record { docs = map.insert d.docs c.args.path.now w; changed = d.changed }) c.self.view_is)
        (c.get_mut.follows.holds w),
    (λ i. record { docs = c.get_mut.follows.holds-at-none i; changed = c.self.inside.changed }) ∙ c.self.view_is,
  ),
  record { writes_back = tt; value = c.get_mut.ensures.value ∙ ap (λ (d : Documents). map.get d.docs c.args.path.now) c.self.view_is },
)
