-- Laws of the table of files: the calls change what is kept at one path, numbers and paths are inverse, and the
-- changes that are taken are the difference of the table now and at the last take.
use Rattle.std.specs.Prelude.{◌≡◌, ◌≢◌, ◌↔◌, ℕ, Bool, true, false, List, [], ◌∷◌, ◌++◌, map, bytes_eq, Option, Some, None, is_some, if◌then◌else◌}
use Rattle.std.specs.List.{find}
use Rattle.std.specs.List.Sorted.{IsStrictlySortedBy}
use Rattle.std.specs.Option.{option_map, option_and_then}
use Rattle.std.specs.FinMap as map
use Rattle.docs_vfs.specs.Paths.{path_cmp}
use Rattle.docs_vfs.specs.declared.file_kinds.ChangedFile.{ChangedFile}
use Rattle.docs_vfs.specs.declared.file_kinds.FileId.{FileId}
use Rattle.docs_vfs.specs.declared.file_kinds.FileRow.{FileRow}
use Rattle.docs_vfs.specs.declared.file_kinds.FileWas.{FileWas}
use Rattle.docs_vfs.specs.declared.file_kinds.RowState.{RowState}
use Rattle.docs_vfs.specs.declared.file_kinds.RowState.TheVariants.{Excluded}
use Rattle.docs_vfs.specs.Files.{Files, kept_at, contents_at, is_marked, kept_of, path_at, kind_between, change_with}

-- ---- what is kept

-- the new table keeps this of a path, and of each other path what the old one kept
abbrev pub Keeps : Files → List ℕ → RowState → Files → Type 0
Keeps t path kept u = (other : List ℕ) → kept_at u other ≡ (if bytes_eq other path then kept else kept_at t other)

-- the contents at a path are these, unless it is marked, and whether that is a change is said
pub record SetsContents (t : Files) (path : List ℕ) (contents : Option (List ℕ)) (u : Files) (changed : Bool) : Type 0 where
  pub kept : Keeps t path (if is_marked (kept_at t path) then Excluded else kept_of contents) u
  pub told : (changed ≡ true) ↔ (contents_at u path ≢ contents_at t path)
  pub unchanged : changed ≡ false → u ≡ t

-- ---- numbers

-- the number of a path
abbrev pub number_at : Files → List ℕ → Option FileId
number_at t path = option_map (λ (row : FileRow). row.file) (map.get t.rows path)

-- numbers and paths are inverse, and a path that was touched is kept with its number
pub record IsNumbered (t : Files) : Type 0 where
  pub path_of : (path : List ℕ) (file : FileId) → number_at t path ≡ Some file → path_at t file ≡ Some path
  pub number_of : (path : List ℕ) (file : FileId) → path_at t file ≡ Some path → number_at t path ≡ Some file
  pub touched : (path : List ℕ) (was : FileWas) → map.get t.before path ≡ Some was → number_at t path ≡ Some was.file

-- the numbers that the new table has: those of the old one, and maybe the next one for this path
pub record KeepsNumbers (t : Files) (path : List ℕ) (u : Files) : Type 0 where
  pub numbered : IsNumbered u
  pub kept : (other : List ℕ) (file : FileId) → number_at t other ≡ Some file → number_at u other ≡ Some file
  pub first : u.first ≡ t.first
  pub order : u.paths ≡ (if is_some (number_at t path) then t.paths else t.paths ++ path ∷ [])

-- ---- the last take

abbrev pub taken : Option FileWas → Option (List ℕ) → Option (List ℕ)
taken None now = now
taken (Some was) now = was.contents

-- the contents at a path at the last take
abbrev pub taken_at : Files → List ℕ → Option (List ℕ)
taken_at t path = taken (map.get t.before path) (contents_at t path)

-- each path has in both tables the same contents at the last take
abbrev pub KeepsTaken : Files → Files → Type 0
KeepsTaken t u = (path : List ℕ) → taken_at u path ≡ taken_at t path

-- what became of a path since the last take
abbrev pub change_at : Files → List ℕ → Option ChangedFile
change_at t path =
    let now = contents_at t path in
    option_and_then (λ file. change_with file path now (kind_between (taken_at t path) now)) (number_at t path)

-- the change of a path in a list of changes
abbrev pub listed : List ℕ → List ChangedFile → Option ChangedFile
listed path list = find (λ c. bytes_eq path c.path) list

-- the list has, in the order of their paths, the change of each path whose contents aren't those of the last take
pub record IsDifference (t : Files) (list : List ChangedFile) : Type 0 where
  pub in_order : IsStrictlySortedBy path_cmp (map (λ (c : ChangedFile). c.path) list)
  pub changes : (path : List ℕ) → listed path list ≡ change_at t path
  pub exact : (path : List ℕ) → (is_some (listed path list) ≡ true) ↔ (taken_at t path ≢ contents_at t path)
