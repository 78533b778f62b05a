use Rattle.std.proofs.Common.{◌≡◌, ◌++◌, drop}
use Rattle.serde_json.specs.View.{items_view}
use Rattle.ra_config.specs.Initialize.{folder_paths}
use Rattle.ra_config.proofs.initialize.folder_paths.Given as goal

-- the paths so far, and then those of what is left
abbrev pub invariant-loop-folder : goal.invariant-loop-folder
invariant-loop-folder l =
    l.paths ++ folder_paths (items_view (drop l.folder-index l.folder-items)) ≡ folder_paths (items_view l.folder-items)
