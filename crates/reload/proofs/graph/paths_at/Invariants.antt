use Rattle.std.proofs.Common.{◌≡◌, ◌++◌, drop}
use Rattle.reload.specs.Graph.{all_paths}
use Rattle.reload.proofs.graph.paths_at.Given as goal

abbrev pub invariant-loop-workspace : goal.invariant-loop-workspace
invariant-loop-workspace l =
    l.paths ++ all_paths (drop l.workspace-index l.workspaces) l.rest ≡ all_paths l.workspaces l.places
