use Rattle.std.proofs.Common.{◌≡◌, ap, ◌∙◌, arith}
use Rattle.std.specs.Prelude.{is_some}
use Rattle.std.specs.Int.{from_bool}
use Rattle.std.specs.FinMap.Entries.{find}
use Rattle.shared_map.proofs.EntryLemmas.{order_set, length_set}
use Rattle.shared_map.proofs.SharedMap.put.Goals as goal

pub invariant_of-changed : goal.invariant_of-changed
invariant_of-changed g c =
    let set = c.in_ok-found.ensures.ok in
    let old = c.into_parts-tree.result.0.0 in
    let long = length_set _ g.met.K.Ord.total c.args.key c.args.value old c.into_parts-tree.ensures.order in
    let given : c.from.result ≡ from_bool (is_some c.args.value) = c.from.ensures ∙ ap from_bool c.is_some-given.ensures in
    let found : c.from-2.result ≡ from_bool (is_some (find g.K.Ord.cmp c.args.key old)) = c.from-2.ensures ∙ ap from_bool set.was in
    let len = c.into_parts-tree.ensures.len in
    rw set.entries (record {
      order = order_set _ g.met.K.Ord.total c.args.key c.args.value old c.into_parts-tree.ensures.order;
      len = omega arith;
    })
