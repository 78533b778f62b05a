use Rattle.std.proofs.Common.{◌≡◌}
use Rattle.std.specs.FinMap as map
use Rattle.std.specs.Vec.Iter.{into_iter_items}
use Rattle.session_model.specs.Crates.{with_paths}
use Rattle.session_renewal.proofs.crates.paths_of.Given as goal

abbrev pub invariant-loop-path : goal.invariant-loop-path
invariant-loop-path l = with_paths l.paths (into_iter_items l.path-iterator) ≡ with_paths map.empty l.fn.list
