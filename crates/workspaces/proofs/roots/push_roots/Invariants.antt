use Rattle.std.proofs.Common.{◌≡◌, ◌++◌, drop, map}
use Rattle.workspaces.specs.Roots.{excluding}
use Rattle.workspaces.proofs.roots.push_roots.Given as goal

abbrev pub invariant-loop-root : goal.invariant-loop-root
invariant-loop-root l = l.list ++ map (excluding l.exclude) (drop l.root-index l.roots) ≡ l.initial.list ++ map (excluding l.exclude) l.roots
