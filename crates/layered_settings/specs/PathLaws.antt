-- What the search path of a root is, and which parents hold, without a count of steps.
use Rattle.std.specs.Prelude.{◌≡◌, ℕ, ◌+◌, ◌==◌, List, [], ◌∷◌, true, false, Option, Some, None, if◌then◌else◌}
use Rattle.std.specs.FinMap as map
use Rattle.layered_settings.specs.Change.{parents_of}
use Rattle.layered_settings.specs.Search.{Parents, parent_of, is_in, chain}

-- the path is at its end: there is no root, or one that came before
abbrev pub IsEnd : List ℕ → Option ℕ → Type 0
IsEnd seen None = Unit {0}
IsEnd seen (Some root) = is_in root seen ≡ true

-- a root that didn't come before, then its parent and so on, up to the end
abbrev pub IsSearchPath : Parents → List ℕ → Option ℕ → List ℕ → Type 0
IsSearchPath parents seen root [] = IsEnd seen root
IsSearchPath parents seen root (here ∷ rest) =
    (root ≡ Some here) × (is_in here seen ≡ false) × IsSearchPath parents (here ∷ seen) (parent_of parents here) rest

-- the parent in the first pair of a root
abbrev pub first_parent : List (ℕ × ℕ) → ℕ → Option ℕ
first_parent [] root = None
first_parent (pair ∷ pairs) root = if root == pair.0 then Some pair.1 else first_parent pairs root

abbrev pub PathsEnd : Type 0
PathsEnd = (parents : Parents) (root : Option ℕ) → IsSearchPath parents [] root (chain (map.len parents + 1) parents [] root)

abbrev pub FirstPairHolds : Type 0
FirstPairHolds = (pairs : List (ℕ × ℕ)) (root : ℕ) → parent_of (parents_of pairs) root ≡ first_parent pairs root
