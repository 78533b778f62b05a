-- Lists whose items stand in another list, in order.
use Rattle.std.specs.Prelude.{◌≡◌, ◌∷◌, ◌++◌, List, []}

-- the first item stands in the other list, and the others stand behind it, in order
abbrev pub IsSublist : {X : Type 0} → List X → List X → Type 0
IsSublist [] all = Unit {0}
IsSublist {X} (item ∷ items) all =
    (before : List X) × (behind : List X) × (all ≡ before ++ item ∷ behind) × IsSublist items behind
