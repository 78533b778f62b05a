use Rattle.std.proofs.Common.{◌≡◌, ◌++◌, ℕ, List, drop}
use Rattle.std.specs.List.{list_all}
use Rattle.docs_vfs.specs.Includes.{places, places_from, has_paths}
use Rattle.docs_vfs.proofs.includes.Includes.of.Given as goal

abbrev pub invariant-loop-at : goal.invariant-loop-at
invariant-loop-at l =
    ((text : List ℕ) → places l.index text ++ places_from l.only_local text l.at (drop l.at l.roots) ≡ places_from l.only_local text 0 l.roots)
    × (list_all (has_paths l.only_local) (drop l.at l.roots) ≡ list_all (has_paths l.only_local) l.roots)
