use Rattle.std.proofs.Common.{◌≡◌, ◌++◌, drop}
use Rattle.session_model.specs.Diagnosing.{list_kinds}
use Rattle.session_diagnostics.proofs.batch.ask_slices.Given as goal

abbrev pub invariant-loop-files : goal.invariant-loop-files
invariant-loop-files l =
    l.into ++ list_kinds l.generation l.fetched (drop l.files-index l.slices) ≡ l.initial.into ++ list_kinds l.generation l.fetched l.slices
