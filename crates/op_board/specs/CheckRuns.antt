-- What a run of the board leaves of a package of a check, told by its acts alone.
use Rattle.std.specs.Prelude.{ℕ, Bool, ◌&&◌, max, List, [], ◌∷◌, ◌++◌, Option, None, Some, cond, nat_eq, nat_lt, option_to_list}
use Rattle.std.specs.List.{list_any}
use Rattle.std.specs.Ordering.{nat_cmp, eq_by_cmp}
use Rattle.std.specs.FinMap as map
use Rattle.docs_vfs.specs.declared.file_kinds.FileId.{FileId}
use Rattle.lsp_types.specs.declared.diagnostic.Diagnostic.{Diagnostic}
use Rattle.op_board.specs.declared.diagnostic.CheckFix.{CheckFix}
use Rattle.op_board.specs.declared.check_package.CheckPackage.{CheckPackage}
use Rattle.op_board.specs.declared.check_package.CheckEntry.{CheckEntry}
use Rattle.lsp_types.specs.Diagnostics.{same_diagnostic}
use Rattle.op_board.specs.Packages.{package_cmp}
use Rattle.op_board.specs.Checks.{Packages, Checks, list_in}
use Rattle.op_board.specs.Runs.{same_file}
use Rattle.op_board.specs.Acts.{Act}
use Rattle.op_board.specs.Acts.Act.{Adds, Forgets, ForgetsIn, ForgetsOlder, ForgetsOlderIn, ForgetsAll}

abbrev pub same_id : ℕ → ℕ → Bool
same_id = eq_by_cmp nat_cmp

abbrev pub same_name : Option (List ℕ) → Option (List ℕ) → Bool
same_name = eq_by_cmp package_cmp

-- an entry that came, with its generation
abbrev pub Came : Type 0
Came = ℕ × CheckEntry

-- the newest generation among these
abbrev pub newest : List Came → ℕ
newest [] = 0
newest (came ∷ before) = max came.0 (newest before)

-- the entries that came since the package was last emptied, the last first
abbrev pub came : ℕ → Option (List ℕ) → List Act → List Came
came id name [] = []
came id name (Adds i generation n entry ∷ before) =
    cond (same_id id i && same_name name n) ((generation, entry) ∷ came id name before) (came id name before)
came id name (Forgets i ∷ before) = cond (same_id id i) [] (came id name before)
came id name (ForgetsIn i n ∷ before) = cond (same_id id i && same_name name n) [] (came id name before)
came id name (ForgetsOlder i generation ∷ before) =
    cond (same_id id i && nat_lt (newest (came id name before)) generation) [] (came id name before)
came id name (ForgetsOlderIn i n generation ∷ before) =
    cond (same_id id i && same_name name n && nat_lt (newest (came id name before)) generation) [] (came id name before)
came id name (ForgetsAll ∷ before) = []
came id name (act ∷ before) = came id name before

-- those of a generation
abbrev pub of_generation : ℕ → List Came → List CheckEntry
of_generation generation [] = []
of_generation generation (came ∷ before) =
    cond (nat_eq came.0 generation) (came.1 ∷ of_generation generation before) (of_generation generation before)

abbrev pub same_entry : FileId → Diagnostic → CheckEntry → Bool
same_entry file diagnostic entry = same_file file entry.file && same_diagnostic diagnostic entry.diagnostic

-- as they came, without those whose diagnostic had come for the file before
abbrev pub as_told : List CheckEntry → List CheckEntry
as_told [] = []
as_told (entry ∷ before) = cond (list_any (same_entry entry.file entry.diagnostic) before) (as_told before) (as_told before ++ entry ∷ [])

-- what a package of a check says: the entries of the newest generation
abbrev pub entries : ℕ → Option (List ℕ) → List Act → List CheckEntry
entries id name run = as_told (of_generation (newest (came id name run)) (came id name run))

-- the diagnostics of a file
abbrev pub said_of : FileId → List CheckEntry → List Diagnostic
said_of file [] = []
said_of file (entry ∷ more) = cond (same_file file entry.file) (entry.diagnostic ∷ said_of file more) (said_of file more)

abbrev pub fixes_told : List CheckEntry → List CheckFix
fixes_told [] = []
fixes_told (entry ∷ more) = option_to_list entry.fix ++ fixes_told more

-- ---- what the board has of a package

abbrev pub package_in : Option (List ℕ) → Option Packages → Option CheckPackage
package_in name None = None
package_in name (Some packages) = map.get packages name

abbrev pub package_at : ℕ → Option (List ℕ) → Checks → Option CheckPackage
package_at id name checks = package_in name (map.get checks id)

abbrev pub listed_in : FileId → Option CheckPackage → List Diagnostic
listed_in file None = []
listed_in file (Some p) = list_in file p

abbrev pub fixes_at : Option CheckPackage → List CheckFix
fixes_at None = []
fixes_at (Some p) = p.fixes
