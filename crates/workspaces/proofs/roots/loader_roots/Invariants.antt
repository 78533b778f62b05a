use Rattle.std.proofs.Common.{◌≡◌, ◌++◌, drop}
use Rattle.workspaces.specs.Roots.{loader_roots}
use Rattle.workspaces.proofs.roots.loader_roots.Given as goal

abbrev pub invariant-loop-workspace : goal.invariant-loop-workspace
invariant-loop-workspace l = l.list ++ loader_roots l.exclude (drop l.workspace-index l.workspaces) ≡ loader_roots l.exclude l.workspaces
