use Rattle.std.proofs.Common.{◌≡◌, ◌++◌, drop}
use Rattle.reload.specs.Watchers.{below_roots}
use Rattle.reload.proofs.watching.push_roots.Given as goal

abbrev pub invariant-loop-root : goal.invariant-loop-root
invariant-loop-root l =
    l.list ++ below_roots l.relative (drop l.root-index l.roots) ≡ l.initial.list ++ below_roots l.relative l.roots
