use Rattle.std.proofs.Common.{◌≡◌, ◌++◌, drop}
use Rattle.std.specs.List.{filter_map}
use Rattle.session_model.specs.Diagnosing.{shown_file}
use Rattle.session_diagnostics.proofs.shown.shown_among.Given as goal

abbrev pub invariant-loop-path : goal.invariant-loop-path
invariant-loop-path l = l.list ++ filter_map (shown_file l.files) (drop l.path-index l.paths) ≡ filter_map (shown_file l.files) l.paths
