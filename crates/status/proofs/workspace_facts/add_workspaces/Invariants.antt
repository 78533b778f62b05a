use Rattle.std.proofs.Common.{◌≡◌, drop}
use Rattle.status.specs.Facts.{add_workspaces}
use Rattle.status.proofs.workspace_facts.add_workspaces.Given as goal

abbrev pub invariant-loop-workspace : goal.invariant-loop-workspace
invariant-loop-workspace l =
    add_workspaces (drop l.workspace-index l.workspaces) l.draft ≡ add_workspaces l.workspaces l.initial.draft
