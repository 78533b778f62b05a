use Rattle.std.proofs.Common.{◌≡◌, ◌++◌, drop}
use Rattle.std.specs.List.{enumerate_from, filter_map}
use Rattle.docs_vfs.specs.Roots.{parent_pair, parent_map}
use Rattle.docs_vfs.proofs.source_roots.parent_pairs.Given as goal

abbrev pub invariant-loop-at : goal.invariant-loop-at
invariant-loop-at l =
    l.list ++ filter_map (parent_pair l.roots) (enumerate_from l.at (drop l.at l.roots)) ≡ parent_map l.roots
