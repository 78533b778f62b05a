use Rattle.std.proofs.Common.{◌≡◌, ◌++◌}
use Rattle.std.specs.Prelude.{option_map}
use Rattle.std.specs.Vec.Iter.{into_iter_items}
use Rattle.serde_json.specs.View.{items_view}
use Rattle.notify.specs.Uris.{uris_in}
use Rattle.notify.proofs.uris.uris_in.Given as goal

abbrev pub invariant-loop-item : goal.invariant-loop-item
invariant-loop-item l = option_map (λ more. l.uris ++ more) (uris_in (items_view (into_iter_items l.item-iterator))) ≡ uris_in (items_view l.fn.items.items)
