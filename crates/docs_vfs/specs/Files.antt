-- The table of files: the numbers of paths, what is kept of each, and what was there at the last take.
use Rattle.std.specs.Prelude.{◌≡◌, ℕ, Bool, true, false, ◌||◌, ◌+◌, ◌-◌, nat_le, nat_lt, List, [], ◌∷◌, ◌++◌, length, slice_get, bytes_eq, Option, Some, None, is_some, Result, Ok, Err, if◌then◌else◌}
use Rattle.std.specs.List.{filter_map}
use Rattle.std.specs.FinMap as map
use Rattle.docs_vfs.specs.Paths.{path_cmp}
use Rattle.docs_vfs.specs.declared.file_kinds.ChangeKind.{ChangeKind}
use Rattle.docs_vfs.specs.declared.file_kinds.ChangeKind.TheVariants.{Create, Modify, Delete}
use Rattle.docs_vfs.specs.declared.file_kinds.ChangedFile.{ChangedFile}
use Rattle.docs_vfs.specs.declared.file_kinds.FileId.{FileId}
use Rattle.docs_vfs.specs.declared.file_kinds.FileExcluded.{FileExcluded}
use Rattle.docs_vfs.specs.declared.file_kinds.FileExcluded.TheVariants.{Yes, No}
use Rattle.docs_vfs.specs.declared.file_kinds.FileRow.{FileRow}
use Rattle.docs_vfs.specs.declared.file_kinds.FileWas.{FileWas}
use Rattle.docs_vfs.specs.declared.file_kinds.RowState.{RowState}
use Rattle.docs_vfs.specs.declared.file_kinds.RowState.TheVariants.{Nothing, Contents, Excluded}
use Rattle.docs_vfs.specs.declared.file_kinds.Replaced.{Replaced}
use Rattle.docs_vfs.specs.declared.file_kinds.TableFault.{TableFault}
use Rattle.docs_vfs.specs.declared.file_kinds.TableFault.TheVariants.{Full, NoMemory}

-- the first number that this table gives, the paths in the order of their numbers, what is kept of each path that
-- has a number, and the contents at the last take of the paths that were touched since
pub record Files : Type 0 where
  pub first : ℕ
  pub paths : List (List ℕ)
  pub rows : map.FinMap path_cmp FileRow
  pub before : map.FinMap path_cmp FileWas

-- a table without files, whose first number is this one
abbrev pub new_files : ℕ → Files
new_files first = record { first = first; paths = []; rows = map.empty; before = map.empty }

-- ---- what is kept of a path

abbrev pub kept_in : Option FileRow → RowState
kept_in None = Nothing
kept_in (Some row) = row.kept

abbrev pub kept_at : Files → List ℕ → RowState
kept_at t path = kept_in (map.get t.rows path)

abbrev pub contents_of : RowState → Option (List ℕ)
contents_of Nothing = None
contents_of (Contents bytes) = Some bytes
contents_of Excluded = None

abbrev pub is_marked : RowState → Bool
is_marked Nothing = false
is_marked (Contents bytes) = false
is_marked Excluded = true

-- the contents at a path
abbrev pub contents_at : Files → List ℕ → Option (List ℕ)
contents_at t path = contents_of (kept_at t path)

abbrev pub kept_of : Option (List ℕ) → RowState
kept_of None = Nothing
kept_of (Some bytes) = Contents bytes

abbrev pub same_contents : Option (List ℕ) → Option (List ℕ) → Bool
same_contents None None = true
same_contents None (Some new) = false
same_contents (Some old) None = false
same_contents (Some old) (Some new) = bytes_eq old new

-- ---- numbers

-- the path with a number
abbrev pub path_at : Files → FileId → Option (List ℕ)
path_at t file = if nat_lt file.0 t.first then None else slice_get t.paths (file.0 - t.first)

abbrev pub has_contents : Files → Option (List ℕ) → Bool
has_contents t None = false
has_contents t (Some path) = is_some (contents_at t path)

-- whether the path with a number has contents
abbrev pub exists_in : Files → FileId → Bool
exists_in t file = has_contents t (path_at t file)

abbrev pub id_by : FileId → RowState → Option (FileId × FileExcluded)
id_by file Nothing = None
id_by file (Contents bytes) = Some (file, No)
id_by file Excluded = Some (file, Yes)

abbrev pub id_in : Option FileRow → Option (FileId × FileExcluded)
id_in None = None
id_in (Some row) = id_by row.file row.kept

-- the number of a path that has contents or a mark, and whether it is marked
abbrev pub file_id_of : Files → List ℕ → Option (FileId × FileExcluded)
file_id_of t path = id_in (map.get t.rows path)

-- the next number: as many as were given
abbrev pub next_file : Files → FileId
next_file t = record { 0 = t.first + length t.paths }

-- all numbers were given
abbrev pub is_full : Files → Bool
is_full t = nat_le 4294967295 (t.first + length t.paths)

abbrev pub number_in : Files → List ℕ → Option FileRow → Result (Files × FileId) TableFault
number_in t path (Some row) = Ok (t, row.file)
number_in t path None = if is_full t then Err Full else Ok (record t { paths = t.paths ++ path ∷ [] }, next_file t)

-- a path without a number gets the next one
abbrev pub with_number : Files → List ℕ → Result (Files × FileId) TableFault
with_number t path = number_in t path (map.get t.rows path)

-- ---- the calls

-- what was there is kept once
abbrev pub before_of : map.FinMap path_cmp FileWas → List ℕ → FileWas → map.FinMap path_cmp FileWas
before_of before path was = if is_some (map.get before path) then before else map.insert before path was

-- the number and the contents in a row
abbrev pub was_of : FileRow → FileWas
was_of row = record { file = row.file; contents = contents_of row.kept }

abbrev pub table_then : {A B : Type 0} → Result A TableFault → (A → Result B TableFault) → Result B TableFault
table_then (Ok x) next = next x
table_then (Err e) next = Err e

-- the table that keeps this of a path with this number
abbrev pub put_at : Files → FileId → List ℕ → RowState → Files
put_at t file path kept =
    record t {
      rows = map.insert t.rows path (record { file = file; kept = kept });
      before = before_of t.before path (record { file = file; contents = contents_at t path });
    }

-- the table that keeps this of a path
abbrev pub put_in : Files → List ℕ → RowState → Result Files TableFault
put_in t path kept = table_then (with_number t path) (λ n. Ok (put_at n.0 n.1 path kept))

-- the table with these contents at a path, and whether that is a change
abbrev pub set_in : Files → List ℕ → Option (List ℕ) → Result (Files × Bool) TableFault
set_in t path contents =
    if is_marked (kept_at t path) || same_contents (contents_at t path) contents then Ok (t, false)
    else table_then (put_in t path (kept_of contents)) (λ u. Ok (u, true))

-- the same of a path that has neither contents nor a mark; any other stays as it is
abbrev pub add_in : Files → List ℕ → Option (List ℕ) → Result (Files × Bool) TableFault
add_in t path contents = if is_some (file_id_of t path) then Ok (t, false) else set_in t path contents

-- what a set makes of a path's row and of what was kept, and whether that is a change
abbrev pub set_row : FileRow → map.FinMap path_cmp FileWas → List ℕ → Option (List ℕ) → FileRow × map.FinMap path_cmp FileWas × Bool
set_row row before path contents =
    if is_marked row.kept || same_contents (contents_of row.kept) contents then (row, before, false)
    else (record row { kept = kept_of contents }, before_of before path (was_of row), true)

-- what an addition makes of them
abbrev pub add_row : FileRow → map.FinMap path_cmp FileWas → List ℕ → Option (List ℕ) → FileRow × map.FinMap path_cmp FileWas × Bool
add_row row before path contents =
    if is_some (id_by row.file row.kept) then (row, before, false) else set_row row before path contents

-- what a mark makes of them
abbrev pub mark_row : FileRow → map.FinMap path_cmp FileWas → List ℕ → FileRow × map.FinMap path_cmp FileWas
mark_row row before path =
    if is_marked row.kept then (row, before) else (record row { kept = Excluded }, before_of before path (was_of row))

-- the table with a mark at a path
abbrev pub mark_in : Files → List ℕ → Result Files TableFault
mark_in t path = if is_marked (kept_at t path) then Ok t else put_in t path Excluded

-- a table that is full or without memory is left as it was
abbrev pub FailsAs : {A : Type 0} → TableFault → Result A TableFault → Files → Files → Type 0
FailsAs Full expected old new = (expected ≡ Err Full) × (new ≡ old)
FailsAs NoMemory expected old new = new ≡ old

-- the call made the expected table
abbrev pub TableRefines : {A : Type 0} → Result A TableFault → Result Files TableFault → Files → Files → Type 0
TableRefines (Ok x) expected old new = expected ≡ Ok new
TableRefines (Err e) expected old new = FailsAs e expected old new

-- the call made the expected table, and answered the expected value
abbrev pub TableRefinesTotal : {A : Type 0} → Result A TableFault → Result (Files × A) TableFault → Files → Files → Type 0
TableRefinesTotal (Ok x) expected old new = expected ≡ Ok (new, x)
TableRefinesTotal (Err e) expected old new = FailsAs e expected old new

-- whether a call changed contents
abbrev pub changed_of : Result Replaced TableFault → Result Bool TableFault
changed_of (Ok replaced) = Ok replaced.changed
changed_of (Err e) = Err e

-- ---- the difference since the last take

-- what became of contents, if they aren't the same
abbrev pub kind_between : Option (List ℕ) → Option (List ℕ) → Option ChangeKind
kind_between None None = None
kind_between None (Some new) = Some Create
kind_between (Some old) None = Some Delete
kind_between (Some old) (Some new) = if bytes_eq old new then None else Some Modify

abbrev pub change_with : FileId → List ℕ → Option (List ℕ) → Option ChangeKind → Option ChangedFile
change_with file path contents None = None
change_with file path contents (Some kind) =
    Some (record { file = file; path = path; kind = kind; contents = contents })

-- what became of a path that had these contents
abbrev pub change_of : map.FinMap path_cmp FileRow → List ℕ × FileWas → Option ChangedFile
change_of rows (path, was) =
    let now = contents_of (kept_in (map.get rows path)) in
    change_with was.file path now (kind_between was.contents now)

-- the difference since the last take, in the order of the paths
abbrev pub changes : Files → List ChangedFile
changes t = filter_map (change_of t.rows) (map.entries t.before)
