use Rattle.std.proofs.Common.{◌≡◌, ◌++◌, drop}
use Rattle.workspaces.proofs.roots.push_each.Given as goal

abbrev pub invariant-loop-path : goal.invariant-loop-path
invariant-loop-path l = l.list ++ drop l.path-index l.paths ≡ l.initial.list ++ l.paths
