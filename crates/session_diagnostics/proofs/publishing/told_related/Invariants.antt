use Rattle.std.proofs.Common.{◌≡◌, ◌++◌, map as each}
use Rattle.std.specs.Vec.Iter.{into_iter_items}
use Rattle.session_model.specs.Diagnosing.{told_related}
use Rattle.session_diagnostics.proofs.publishing.told_related.Given as goal

abbrev pub invariant-loop-related : goal.invariant-loop-related
invariant-loop-related l = l.told ++ each told_related (into_iter_items l.related-iterator) ≡ each told_related l.fn.list
