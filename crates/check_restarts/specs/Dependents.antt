-- Which crates are affected by a change: those that are chosen, and all that depend on one of these over any number of steps.
use Rattle.std.specs.Prelude.{◌≡◌, ◌↔◌, ℕ, Bool, false, IsTrue, ◌==◌, List, [], ◌∷◌, slice_get, slice_index_or, Option, Some, None, if◌then◌else◌}
use Rattle.std.specs.List.{list_any}
use Rattle.project_model.specs.declared.crates.CrateInfo.{CrateInfo}
use Rattle.check_restarts.specs.Among.{is_among}

abbrev pub found_is : {X : Type 0} → (X → Bool) → Option X → Bool
found_is test None = false
found_is test (Some x) = test x

-- there is an item with this number, and it passes the test
abbrev pub is_at : {X : Type 0} → (X → Bool) → List X → ℕ → Bool
is_at test xs number = found_is test (slice_get xs number)

abbrev pub is_in : List ℕ → ℕ → Bool
is_in list number = list_any (λ other. other == number) list

-- the crate with the first number names the one with the second as a dependency
abbrev pub names : List CrateInfo → ℕ → ℕ → Bool
names crates number dep = is_at (λ (info : CrateInfo). is_in info.deps dep) crates number

-- the root of the crate with a number is among these; the paths are those of the crates' roots
abbrev pub has_root : List (List ℕ) → List (List ℕ) → ℕ → Bool
has_root paths roots number = is_at (is_among roots) paths number

-- each crate names the next as a dependency, and the last is chosen
abbrev pub IsChain : (ℕ → ℕ → Bool) → (ℕ → Bool) → ℕ → List ℕ → Type 0
IsChain depends chosen number [] = IsTrue (chosen number)
IsChain depends chosen number (next ∷ rest) = IsTrue (depends number next) × IsChain depends chosen next rest

-- the crate is chosen, or a chain of dependencies leads from it to one that is
abbrev pub IsAffected : (ℕ → ℕ → Bool) → (ℕ → Bool) → ℕ → Type 0
IsAffected depends chosen number = (chain : List ℕ) × IsChain depends chosen number chain

abbrev pub is_marked : List Bool → ℕ → Bool
is_marked marks number = slice_index_or marks number false

-- exactly the crates are marked that are affected
abbrev pub MarksAffected : (ℕ → ℕ → Bool) → (ℕ → Bool) → List Bool → Type 0
MarksAffected depends chosen marks = (number : ℕ) → IsTrue (is_marked marks number) ↔ IsAffected depends chosen number

-- the paths that are marked, in order
abbrev pub picked : List Bool → List (List ℕ) → List (List ℕ)
picked [] paths = []
picked (mark ∷ marks) [] = []
picked (mark ∷ marks) (path ∷ paths) = if mark then path ∷ picked marks paths else picked marks paths

-- the roots of the crates whose root is among these, and of all that depend on one of them
abbrev pub AreAffected : List CrateInfo → List (List ℕ) → List (List ℕ) → List (List ℕ) → Type 0
AreAffected crates paths roots affected =
    (marks : List Bool) × MarksAffected (names crates) (has_root paths roots) marks × (affected ≡ picked marks paths)
