use Rattle.std.proofs.Common.{◌≡◌, ◌++◌, map as each}
use Rattle.std.specs.Vec.Iter.{into_iter_items}
use Rattle.session_model.specs.Diagnosing.{told_diagnostic}
use Rattle.session_diagnostics.proofs.publishing.told_diagnostics.Given as goal

abbrev pub invariant-loop-diagnostic : goal.invariant-loop-diagnostic
invariant-loop-diagnostic l = l.told ++ each told_diagnostic (into_iter_items l.diagnostic-iterator) ≡ each told_diagnostic l.fn.list
