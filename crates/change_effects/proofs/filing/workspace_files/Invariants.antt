use Rattle.std.proofs.Common.{◌≡◌, ◌++◌, drop}
use Rattle.std.specs.List.{filter_map}
use Rattle.change_effects.specs.Filing.{workspace_file, workspace_files}
use Rattle.change_effects.proofs.filing.workspace_files.Given as goal

abbrev pub invariant-loop-file : goal.invariant-loop-file
invariant-loop-file l = l.list ++ filter_map (workspace_file l.roots l.workspaces) (drop l.file-index l.files) ≡ workspace_files l.roots l.workspaces l.files
