use Rattle.std.proofs.Common.{◌≡◌, ◌++◌, drop}
use Rattle.std.specs.List.{filter_map}
use Rattle.change_effects.specs.Filing.{crate_file, crate_files}
use Rattle.change_effects.proofs.filing.crate_files.Given as goal

abbrev pub invariant-loop-file : goal.invariant-loop-file
invariant-loop-file l = l.list ++ filter_map (crate_file l.roots l.workspaces) (drop l.file-index l.files) ≡ crate_files l.roots l.workspaces l.files
