use Rattle.std.proofs.Common.{◌≡◌, ◌++◌, drop}
use Rattle.reload.specs.Watchers.{all_manifests}
use Rattle.reload.proofs.watching.push_manifests.Given as goal

abbrev pub invariant-loop-workspace : goal.invariant-loop-workspace
invariant-loop-workspace l =
    l.list ++ all_manifests (drop l.workspace-index l.workspaces) ≡ l.initial.list ++ all_manifests l.workspaces
