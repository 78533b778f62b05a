use Rattle.std.proofs.Common.{◌≡◌, ◌++◌, drop}
use Rattle.reload.specs.Graph.{all_crates}
use Rattle.reload.proofs.graph.crates_at.Given as goal

abbrev pub invariant-loop-workspace : goal.invariant-loop-workspace
invariant-loop-workspace l =
    l.crates ++ all_crates (drop l.workspace-index l.workspaces) l.rest ≡ all_crates l.workspaces l.places
