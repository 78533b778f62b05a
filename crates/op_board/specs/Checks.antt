-- The lists of checks, by the number of a check and by package, and in the order in which they came.
use Rattle.std.specs.Prelude.{ℕ, Bool, true, not, List, [], ◌∷◌, ◌++◌, Option, None, Some, cond, nat_eq, nat_lt, option_to_list}
use Rattle.std.specs.List.{list_any, filter, flat_map}
use Rattle.std.specs.Ordering.{nat_cmp}
use Rattle.std.specs.FinMap as map
use Rattle.docs_vfs.specs.declared.file_kinds.FileId.{FileId}
use Rattle.lsp_types.specs.declared.diagnostic.Diagnostic.{Diagnostic}
use Rattle.op_board.specs.declared.diagnostic.CheckFix.{CheckFix}
use Rattle.op_board.specs.declared.check_package.CheckPackage.{CheckPackage}
use Rattle.op_board.specs.declared.check_package.CheckEntry.{CheckEntry}
use Rattle.lsp_types.specs.Diagnostics.{same_diagnostic}
use Rattle.op_board.specs.Marked.{Marked, mark, mark_all}
use Rattle.op_board.specs.Packages.{package_cmp}

abbrev pub Packages : Type 0
Packages = map.FinMap package_cmp CheckPackage

abbrev pub Checks : Type 0
Checks = map.FinMap nat_cmp Packages

-- ---- reading

abbrev pub listed : Option (List Diagnostic) → List Diagnostic
listed None = []
listed (Some list) = list

-- what a package says of a file
abbrev pub list_in : FileId → CheckPackage → List Diagnostic
list_in file p = listed (map.get p.lists file.0)

abbrev pub lists_in : FileId → Packages → List Diagnostic
lists_in file packages = flat_map (list_in file) (map.values packages)

-- what all checks say of a file
abbrev pub checks_of : FileId → Checks → List Diagnostic
checks_of file checks = flat_map (lists_in file) (map.values checks)

abbrev pub fixes_of : CheckPackage → List CheckFix
fixes_of p = p.fixes

abbrev pub fixes_in : Packages → List CheckFix
fixes_in packages = flat_map fixes_of (map.values packages)

abbrev pub all_fixes : Checks → List CheckFix
all_fixes checks = flat_map fixes_in (map.values checks)

-- ---- marks of all files that lose an entry

abbrev pub mark_package : CheckPackage → Marked → Marked
mark_package p m = mark_all (map.keys p.lists) m

abbrev pub mark_packages : List CheckPackage → Marked → Marked
mark_packages [] m = m
mark_packages (p ∷ more) m = mark_packages more (mark_package p m)

abbrev pub mark_checks : List Packages → Marked → Marked
mark_checks [] m = m
mark_checks (packages ∷ more) m = mark_checks more (mark_packages (map.values packages) m)

-- ---- adding

abbrev pub new_package : ℕ → CheckPackage
new_package generation = record { generation = generation; lists = map.empty; fixes = [] }

-- a diagnostic that is there already is dropped, with its fix
abbrev pub add_entry : CheckEntry → CheckPackage × Marked → CheckPackage × Marked
add_entry e (p, m) =
    cond (list_any (same_diagnostic e.diagnostic) (list_in e.file p)) (p, m) (
      record {
        generation = p.generation;
        lists = map.insert p.lists e.file.0 (list_in e.file p ++ e.diagnostic ∷ []);
        fixes = p.fixes ++ option_to_list e.fix;
      },
      mark e.file m,
    )

-- a newer generation empties the package first
abbrev pub renewed : ℕ → CheckPackage × Marked → CheckPackage × Marked
renewed generation (p, m) = cond (nat_lt p.generation generation) (new_package generation, mark_package p m) (p, m)

-- an older generation is dropped
abbrev pub add_to : ℕ → CheckEntry → CheckPackage × Marked → CheckPackage × Marked
add_to generation e (p, m) =
    cond (nat_lt generation p.generation) (p, m) (add_entry e (renewed generation (p, m)))

abbrev pub package_or_new : ℕ → Option CheckPackage → CheckPackage
package_or_new generation None = new_package generation
package_or_new generation (Some p) = p

abbrev pub packages_or_none : Option Packages → Packages
packages_or_none None = map.empty
packages_or_none (Some packages) = packages

abbrev pub add_in : ℕ → Option (List ℕ) → CheckEntry → Packages × Marked → Packages × Marked
add_in generation name e (packages, m) =
    let added = add_to generation e (package_or_new generation (map.get packages name), m) in
    (map.insert packages name added.0, added.1)

abbrev pub add_check : ℕ → ℕ → Option (List ℕ) → CheckEntry → Checks × Marked → Checks × Marked
add_check id generation name e (checks, m) =
    let added = add_in generation name e (packages_or_none (map.get checks id), m) in
    (map.insert checks id added.0, added.1)

-- ---- clearing; each file that loses an entry is marked

abbrev pub older_than : ℕ → CheckPackage → Bool
older_than generation p = nat_lt p.generation generation

-- each package, or those of an older generation
abbrev pub drops_at : Option ℕ → CheckPackage → Bool
drops_at None p = true
drops_at (Some generation) p = older_than generation p

-- the packages that a test doesn't drop
abbrev pub kept : (CheckPackage → Bool) → Packages → Packages
kept drops packages = map.from_entries (filter (λ row. not (drops row.1)) (map.entries packages))

abbrev pub mark_dropped : (CheckPackage → Bool) → List CheckPackage → Marked → Marked
mark_dropped drops [] m = m
mark_dropped drops (p ∷ more) m = mark_dropped drops more (cond (drops p) (mark_package p m) m)

-- a check of which no package is left is forgotten
abbrev pub with_left : ℕ → Packages → Checks → Checks
with_left id packages checks = cond (nat_eq (map.len packages) 0) (map.remove checks id) (map.insert checks id packages)

abbrev pub drop_package : (CheckPackage → Bool) → Option (List ℕ) → Option CheckPackage → Packages × Marked → Packages × Marked
drop_package drops name None both = both
drop_package drops name (Some p) (packages, m) = cond (drops p) (map.remove packages name, mark_package p m) (packages, m)

-- a whole check, which is forgotten
abbrev pub forget : ℕ → Option Packages → Checks × Marked → Checks × Marked
forget id None both = both
forget id (Some packages) (checks, m) = (map.remove checks id, mark_packages (map.values packages) m)

abbrev pub clear_id : ℕ → Checks × Marked → Checks × Marked
clear_id id (checks, m) = forget id (map.get checks id) (checks, m)

-- one package of a check, if the test drops it
abbrev pub drop_in : (CheckPackage → Bool) → ℕ → Option (List ℕ) → Option Packages → Checks × Marked → Checks × Marked
drop_in drops id name None both = both
drop_in drops id name (Some packages) (checks, m) =
    let dropped = drop_package drops name (map.get packages name) (packages, m) in
    (with_left id dropped.0 checks, dropped.1)

abbrev pub clear_one : (CheckPackage → Bool) → ℕ → Option (List ℕ) → Checks × Marked → Checks × Marked
clear_one drops id name (checks, m) = drop_in drops id name (map.get checks id) (checks, m)

-- the packages of a check that the test drops
abbrev pub sift : (CheckPackage → Bool) → ℕ → Option Packages → Checks × Marked → Checks × Marked
sift drops id None both = both
sift drops id (Some packages) (checks, m) =
    (with_left id (kept drops packages) checks, mark_dropped drops (map.values packages) m)

abbrev pub clear_older : ℕ → ℕ → Checks × Marked → Checks × Marked
clear_older id generation (checks, m) = sift (older_than generation) id (map.get checks id) (checks, m)
