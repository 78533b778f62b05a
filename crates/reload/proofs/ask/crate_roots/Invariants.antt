use Rattle.std.proofs.Common.{◌≡◌, ◌++◌, drop}
use Rattle.reload.specs.Graph.{crate_roots}
use Rattle.reload.proofs.ask.crate_roots.Given as goal

abbrev pub invariant-loop-workspace : goal.invariant-loop-workspace
invariant-loop-workspace l =
    l.roots ++ crate_roots (drop l.workspace-index l.workspaces) ≡ crate_roots l.workspaces
