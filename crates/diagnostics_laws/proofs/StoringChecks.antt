-- What all checks say of a file is told by what each package says of it.
use Rattle.std.proofs.Common.{◌≡◌, ℕ, List, [], refl, sym, ap, ◌∙◌}
use Rattle.std.specs.Prelude.{Option, None, Some, map as each}
use Rattle.std.specs.List.{flat_map}
use Rattle.std.specs.Cmp.{nat_cmp_total}
use Rattle.std.specs.FinMap as map
use Rattle.std.proofs.lemmas.List.{nil_from_length}
use Rattle.docs_vfs.specs.declared.file_kinds.FileId.{FileId}
use Rattle.op_board.specs.CheckRuns.{listed_in, package_at, package_in}
use Rattle.op_board.specs.Checks.{Checks, Packages, checks_of, list_in, lists_in}
use Rattle.op_board.specs.Packages.{package_cmp}
use Rattle.op_board.specs.declared.check_package.CheckPackage.{CheckPackage}
use Rattle.op_board.proofs.PackageOrder.{package_total}
use Rattle.diagnostics_laws.proofs.Keyed.{told_of, values-alike}

-- packages that may be none
abbrev none_or : Option Packages → Packages
none_or None = map.empty
none_or (Some packages) = packages

none_lists : (file : FileId) → lists_in file (map.empty) ≡ []
none_lists file = ap (flat_map (list_in file)) (values-none)
  where
    values-none : map.values (map.empty {X = CheckPackage} {R = package_cmp}) ≡ []
    values-none = ap (λ (es : List (Option (List ℕ) × CheckPackage)). each (λ e. e.1) es)
        (nil_from_length _ (sym (map.len-entries _) ∙ map.len-empty package_cmp CheckPackage))

in_package : (file : FileId) (name : Option (List ℕ)) (o : Option Packages)
    → told_of package_total (list_in file) (map.get (none_or o) name) ≡ listed_in file (package_in name o)
in_package file name None = ap (told_of package_total (list_in file)) (map.get-empty package_cmp name)
in_package file name (Some packages) = by-found (map.get packages name)
  where
    by-found : (o : Option CheckPackage) → told_of package_total (list_in file) o ≡ listed_in file o
    by-found None = refl
    by-found (Some p) = refl

in_packages : (file : FileId) (o : Option Packages) → told_of nat_cmp_total (lists_in file) o ≡ lists_in file (none_or o)
in_packages file None = sym (none_lists file)
in_packages file (Some packages) = refl

-- where each package says the same of a file, all of them do
pub checks-alike : (file : FileId) (c d : Checks)
    → ((id : ℕ) (name : Option (List ℕ)) → listed_in file (package_at id name c) ≡ listed_in file (package_at id name d))
    → checks_of file c ≡ checks_of file d
checks-alike file c d alike =
    values-alike nat_cmp_total (lists_in file) c d (λ id. in_packages file (map.get c id)
    ∙ values-alike package_total (list_in file) (none_or (map.get c id)) (none_or (map.get d id))
    (λ name. in_package file name (map.get c id) ∙ alike id name ∙ sym (in_package file name (map.get d id)))
    ∙ sym (in_packages file (map.get d id)))
