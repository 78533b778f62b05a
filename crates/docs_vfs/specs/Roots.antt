-- The roots of a workspace: which root a path is in, and which root is the parent of another.
use Rattle.std.specs.Prelude.{ℕ, Bool, false, slice_get, not, ◌&&◌, ◌==◌, max, List, length, bytes_eq, Option, Some, None, unwrap_or, if◌then◌else◌}
use Rattle.std.specs.List.{list_any, fold, position, filter_map, enumerate_from}
use Rattle.docs_vfs.specs.Paths.{is_within}
use Rattle.docs_vfs.specs.declared.source_roots.Root.{Root}

-- at most this many roots are kept
abbrev pub most_roots : ℕ
most_roots = 4294967295

-- the greatest of these numbers, 0 where there are none
abbrev pub greatest : {X : Type 0} → (X → ℕ) → List X → ℕ
greatest h xs = fold (λ a x. max a (h x)) 0 xs

-- the first place of the greatest number, unless all are 0
abbrev pub first_greatest : {X : Type 0} → (X → ℕ) → List X → Option ℕ
first_greatest h xs = if greatest h xs == 0 then None else position (λ x. h x == greatest h xs) xs

-- the length of an include that is a prefix of the path, else 0
abbrev pub include_length : List ℕ → List ℕ → ℕ
include_length path include = if is_within include path then length include else 0

-- the length of a root's longest include that is a prefix of the path; 0 where none is, or where an exclude is one
abbrev pub root_length : List ℕ → Root → ℕ
root_length path root =
    if list_any (λ exclude. is_within exclude path) root.exclude then 0
    else greatest (include_length path) root.include

-- the root that a path is in: the first with the longest include; the number of roots where it is in none
abbrev pub root_of : List Root → List ℕ → ℕ
root_of roots path = unwrap_or (first_greatest (root_length path) roots) (length roots)

-- the path lies in the folder and isn't the folder itself
abbrev pub is_below : List ℕ → List ℕ → Bool
is_below folder path = is_within folder path && not (bytes_eq folder path)

-- the length of an include that is a proper prefix of one of the child's includes, else 0
abbrev pub proper_length : Root → List ℕ → ℕ
proper_length child include = if list_any (λ path. is_below include path) child.include then length include else 0

-- the same of the longest include of a local root other than the child itself
abbrev pub parent_length : ℕ → Root → ℕ × Root → ℕ
parent_length at child (place, root) =
    if root.is_local && not (place == at) then greatest (proper_length child) root.include else 0

-- the parent of a root: the first local root with the longest such include
abbrev pub parent_of : List Root → ℕ → Root → Option ℕ
parent_of roots at child = first_greatest (parent_length at child) (enumerate_from 0 roots)

abbrev pub pair_with : ℕ → Option ℕ → Option (ℕ × ℕ)
pair_with at None = None
pair_with at (Some parent) = Some (at, parent)

abbrev pub parent_pair : List Root → ℕ × Root → Option (ℕ × ℕ)
parent_pair roots (at, root) = if root.is_local then pair_with at (parent_of roots at root) else None

-- each local root that has a parent, with its parent, in the order of the roots
abbrev pub parent_map : List Root → List (ℕ × ℕ)
parent_map roots = filter_map (parent_pair roots) (enumerate_from 0 roots)

abbrev pub is_local_in : Option Root → Bool
is_local_in None = false
is_local_in (Some root) = root.is_local

-- whether the root with this number is local; a number that is no root's isn't
abbrev pub is_local_at : List Root → ℕ → Bool
is_local_at roots at = is_local_in (slice_get roots at)
