use Rattle.std.proofs.Common.{◌≡◌, drop}
use Rattle.session_model.specs.Diagnosing.{deleted_cleared}
use Rattle.session_diagnostics.proofs.lists.clear_all.Given as goal

abbrev pub invariant-loop-file : goal.invariant-loop-file
invariant-loop-file l = deleted_cleared (drop l.file-index l.changed) l.board ≡ deleted_cleared l.changed l.initial.board
