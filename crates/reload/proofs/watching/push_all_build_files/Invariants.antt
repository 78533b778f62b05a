use Rattle.std.proofs.Common.{◌≡◌, ◌++◌, drop}
use Rattle.reload.specs.Watchers.{all_build_files}
use Rattle.reload.proofs.watching.push_all_build_files.Given as goal

abbrev pub invariant-loop-workspace : goal.invariant-loop-workspace
invariant-loop-workspace l =
    l.list ++ all_build_files (drop l.workspace-index l.workspaces) ≡ l.initial.list ++ all_build_files l.workspaces
