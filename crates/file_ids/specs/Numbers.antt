-- The numbers of paths, and the paths of numbers.
use Rattle.std.specs.Prelude.{◌≡◌, ◌↔◌, ℕ, ◌==◌, Bool, false, List, Option, None, Some}
use Rattle.std.specs.List.{find as first}
use Rattle.std.specs.Ordering.{nat_cmp}
use Rattle.std.specs.FinMap as map
use Rattle.std.specs.FinMap.Entries.{find}
use Rattle.shared_map.specs.Entries.{set_entry}
use Rattle.docs_vfs.specs.Paths.{path_cmp}
use Rattle.docs_vfs.specs.declared.file_kinds.FileId.{FileId}
use Rattle.docs_vfs.specs.declared.file_kinds.FileExcluded.{FileExcluded}

-- the number in an entry
abbrev pub file_of : Option (FileId × FileExcluded) → Option FileId
file_of None = None
file_of (Some entry) = Some entry.0

abbrev pub number_in : Option FileId → Option ℕ
number_in None = None
number_in (Some file) = Some file.0

abbrev pub number_of : Option (FileId × FileExcluded) → Option ℕ
number_of entry = number_in (file_of entry)

-- the entry has this number
abbrev pub has_number : FileId → Option (FileId × FileExcluded) → Bool
has_number file None = false
has_number file (Some entry) = entry.0.0 == file.0

-- the path that has the number, if there is one
abbrev pub path_of : map.FinMap path_cmp (FileId × FileExcluded) → FileId → Option (List ℕ)
path_of files file = first (λ path. has_number file (map.get files path)) (map.keys files)

-- no other path has the number
abbrev pub IsFree : List ℕ → Option FileId → map.FinMap path_cmp (FileId × FileExcluded) → Type 0
IsFree path None files = Unit {0}
IsFree path (Some file) files = (other : List ℕ) → number_of (map.get files other) ≡ Some file.0 → other ≡ path

-- the path at a number is the one that has the number
pub record AreInverse (files : List (List ℕ × (FileId × FileExcluded))) (paths : List (ℕ × List ℕ)) : Type 0 where
  pub same : (path : List ℕ) (number : ℕ) → (find nat_cmp number paths ≡ Some path) ↔ (number_of (find path_cmp path files) ≡ Some number)

-- the paths by number where no path has this number, if there is one
abbrev pub without_number : Option FileId → List (ℕ × List ℕ) → List (ℕ × List ℕ)
without_number None paths = paths
without_number (Some file) paths = set_entry nat_cmp file.0 None paths

-- the paths by number where this path has the number, if there is one
abbrev pub with_number : Option FileId → List ℕ → List (ℕ × List ℕ) → List (ℕ × List ℕ)
with_number None path paths = paths
with_number (Some file) path paths = set_entry nat_cmp file.0 (Some path) paths
