use Rattle.std.proofs.Common.{◌≡◌, ◌++◌, drop}
use Rattle.session_model.specs.Diagnosing.{urls_of}
use Rattle.session_diagnostics.proofs.lists.urls_of.Given as goal

abbrev pub invariant-loop-file : goal.invariant-loop-file
invariant-loop-file l = l.urls ++ urls_of l.files.table (drop l.file-index l.asked) ≡ urls_of l.files.table l.asked
