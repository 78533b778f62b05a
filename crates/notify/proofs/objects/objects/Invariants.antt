use Rattle.std.proofs.Common.{◌≡◌, ◌++◌, map}
use Rattle.std.specs.Vec.Iter.{into_iter_items}
use Rattle.serde_json.specs.View.{view}
use Rattle.notify.specs.Objects.{with_text}
use Rattle.notify.proofs.objects.objects.Given as goal

abbrev pub invariant-loop-text : goal.invariant-loop-text
invariant-loop-text l = map view l.values.items ++ map (with_text l.key) (into_iter_items l.text-iterator) ≡ map (with_text l.key) l.fn.texts
