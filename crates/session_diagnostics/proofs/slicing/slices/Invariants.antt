use Rattle.std.proofs.Common.{◌≡◌, ◌++◌}
use Rattle.session_model.specs.Diagnosing.{slices}
use Rattle.session_diagnostics.proofs.slicing.slices.Given as goal

abbrev pub invariant-loop-others : goal.invariant-loop-others
invariant-loop-others l = l.list ++ slices l.others l.remaining ≡ slices l.count l.files

abbrev pub decreases-loop-others : goal.decreases-loop-others
decreases-loop-others l = l.others
