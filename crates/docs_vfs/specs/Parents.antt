-- The parent of a root, told by the length of the include that it is chosen for.
use Rattle.std.specs.Prelude.{ℕ, true, List, [], ◌&&◌, ◌||◌, ◌==◌, nat_lt, Option, Some, None, option_map, if◌then◌else◌}
use Rattle.std.specs.List.{enumerate_from}
use Rattle.docs_vfs.specs.Roots.{greatest, first_greatest, parent_length}
use Rattle.docs_vfs.specs.declared.source_roots.Root.{Root}

-- the length of the longest include of a local root that lies properly above one of these; 0 for the root at this place
abbrev pub length_above : ℕ → List (List ℕ) → ℕ × Root → ℕ
length_above at includes root = parent_length at (record { include = includes; exclude = []; is_local = true }) root

-- the greatest number and the first place that has it, unless all are 0
abbrev pub greatest_at : {X : Type 0} → (X → ℕ) → List X → Option (ℕ × ℕ)
greatest_at h xs = option_map (λ place. (greatest h xs, place)) (first_greatest h xs)

-- of two the greater one, and of equal ones the earlier one
abbrev pub better : Option (ℕ × ℕ) → Option (ℕ × ℕ) → Option (ℕ × ℕ)
better None b = b
better (Some a) None = Some a
better (Some a) (Some b) = if nat_lt a.0 b.0 || (a.0 == b.0 && nat_lt b.1 a.1) then Some b else Some a

-- the longest include of a local root but one that lies above one of these, and the first root that has it
abbrev pub parent_above : ℕ → List (List ℕ) → List Root → Option (ℕ × ℕ)
parent_above at includes roots = greatest_at (length_above at includes) (enumerate_from 0 roots)
