use Rattle.std.proofs.Common.{◌≡◌, ◌++◌, drop}
use Rattle.reload.specs.Watchers.{below_workspaces}
use Rattle.reload.proofs.watching.push_below.Given as goal

abbrev pub invariant-loop-workspace : goal.invariant-loop-workspace
invariant-loop-workspace l =
    l.list ++ below_workspaces l.relative (drop l.workspace-index l.workspaces) ≡ l.initial.list ++ below_workspaces l.relative l.workspaces
