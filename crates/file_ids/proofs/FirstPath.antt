-- The first path that has a number is the one path that has it.
use Rattle.std.proofs.Common.{◌≡◌, ℕ, Bool, true, false, cond, ◌||◌, List, [], ◌∷◌, refl, sym, ap, ◌∙◌, subst}
use Rattle.std.specs.Prelude.{◌↔◌, Option, None, Some, is_some, IfSome}
use Rattle.std.specs.List.{find, list_any}
use Rattle.std.specs.Ordering.{nat_cmp, eq_by_cmp}
use Rattle.std.specs.Cmp.Lexicographic.{nat_list_cmp_total}
use Rattle.std.specs.FinMap as map
use Rattle.std.specs.FinMap.Entries.{find as at}
use Rattle.std.proofs.lemmas.Bool.{false≢true, eqb-true, eq-eqb}
use Rattle.std.proofs.lemmas.Option.{none-some, same_Some}
use Rattle.shared_map.proofs.AsMap.{get-view}
use Rattle.docs_vfs.specs.Paths.{path_cmp}
use Rattle.docs_vfs.specs.declared.file_kinds.FileId.{FileId}
use Rattle.docs_vfs.specs.declared.file_kinds.FileExcluded.{FileExcluded}
use Rattle.file_ids.specs.Numbers.{AreInverse, has_number, number_of, path_of}
use Rattle.file_ids.proofs.Inverse.{Says, says_same, same_path}

abbrev Files : Type 0
Files = map.FinMap path_cmp (FileId × FileExcluded)

-- ---- an entry and its number

to_number : (file : FileId) (entry : Option (FileId × FileExcluded)) → has_number file entry ≡ true → number_of entry ≡ Some file.0
to_number file None h = absurd (false≢true h)
to_number file (Some entry) h = ap Some (eqb-true entry.0.0 file.0 h)

from_number : (file : FileId) (entry : Option (FileId × FileExcluded)) → number_of entry ≡ Some file.0 → has_number file entry ≡ true
from_number file None h = absurd (none-some file.0 h)
from_number file (Some entry) h = eq-eqb entry.0.0 file.0 (same_Some _ _ h)

is_entry : (n : ℕ) (entry : Option (FileId × FileExcluded)) → number_of entry ≡ Some n → is_some entry ≡ true
is_entry n None h = absurd (none-some n h)
is_entry n (Some entry) h = refl

-- ---- the first of a list

passes : (p : List ℕ → Bool) (xs : List (List ℕ)) (x : List ℕ) → find p xs ≡ Some x → p x ≡ true
passes p [] x e = absurd (none-some x e)
passes p (k ∷ ks) x e =
    elim (p k) as (λ b. p k ≡ b → cond b (Some k) (find p ks) ≡ Some x → p x ≡ true) [
      | true ↦ λ t is. subst (λ z. p z ≡ true) (same_Some k x is) t
      | false ↦ λ t is. passes p ks x is
    ] refl e

is_found : (p : List ℕ → Bool) (q : List ℕ) (xs : List (List ℕ)) → list_any (eq_by_cmp path_cmp q) xs ≡ true → p q ≡ true → find p xs ≡ None → ⊥
is_found p q [] held h none = false≢true held
is_found p q (k ∷ ks) held h none =
    elim (p k) as (λ b. p k ≡ b → cond b (Some k) (find p ks) ≡ None → ⊥) [
      | true ↦ λ t is. none-some k (sym is)
      | false ↦ λ t is.
          elim (eq_by_cmp path_cmp q k) as (λ b. Says b (q ≡ k) → (b || list_any (eq_by_cmp path_cmp q) ks) ≡ true → ⊥) [
            | true ↦ λ same _. false≢true (sym t ∙ subst (λ z. p z ≡ true) same h)
            | false ↦ λ _ rest. is_found p q ks rest h is
          ] (says_same nat_list_cmp_total same_path q k) held
    ] refl none

-- ---- the first path with a number

abbrev test : Files → FileId → List ℕ → Bool
test files file path = has_number file (map.get files path)

has_it : (files : Files) (file : FileId) (path : List ℕ) → path_of files file ≡ Some path → number_of (map.get files path) ≡ Some file.0
has_it files file path e = to_number file (map.get files path) (passes (test files file) (map.keys files) path e)

is_not_none : (files : Files) (file : FileId) (path : List ℕ) → number_of (map.get files path) ≡ Some file.0 → path_of files file ≡ None → ⊥
is_not_none files file path h none =
    is_found (test files file) path (map.keys files) (sym (map.contains_key-keys files path) ∙ is_entry file.0 (map.get files path) h)
    (from_number file (map.get files path) h) none

settled : (found here : Option (List ℕ)) → ((path : List ℕ) → here ≡ Some path → found ≡ Some path)
    → (here ≡ None → (path : List ℕ) → found ≡ Some path → ⊥) → found ≡ here
settled found (Some path) is none = is path refl
settled None None is none = refl
settled (Some path) None is none = absurd (none refl path refl)

pub first_path : (files : Files) (file : FileId) (found : Option (List ℕ))
    → ((path : List ℕ) → (found ≡ Some path) ↔ (number_of (map.get files path) ≡ Some file.0)) → found ≡ path_of files file
first_path files file found same =
    settled found (path_of files file) (λ path e. (same path).1 (has_it files file path e)) (λ none path e. is_not_none files file path ((same path).0 e) none)

-- the number of an entry leads back to the entry's path
pub leads_back : (files : Files) (path : List ℕ) (entry : Option (FileId × FileExcluded)) → entry ≡ map.get files path
    → ((file : FileId) (other : List ℕ) → number_of (map.get files other) ≡ Some file.0 → path_of files file ≡ Some other)
    → IfSome entry (λ it. path_of files it.0 ≡ Some path)
leads_back files path None is back = tt
leads_back files path (Some entry) is back = back entry.0 path (ap number_of (sym is))

-- ---- the same in a table of paths by number

-- the path at a number is the one that the map says
pub at_number : (files : List (List ℕ × (FileId × FileExcluded))) (paths : List (ℕ × List ℕ)) → AreInverse files paths
    → (seen : Files) → map.from_entries files ≡ seen → (file : FileId) (path : List ℕ)
    → (at nat_cmp file.0 paths ≡ Some path) ↔ (number_of (map.get seen path) ≡ Some file.0)
at_number files paths inverse seen is file path =
    let same = inverse.same path file.0 in
    let here = ap number_of (sym (get-view nat_list_cmp_total files path) ∙ ap (λ m. map.get m path) is) in
    (λ e. sym here ∙ same.0 e, λ e. same.1 (here ∙ e))

pub number_back : (files : List (List ℕ × (FileId × FileExcluded))) (paths : List (ℕ × List ℕ)) → AreInverse files paths
    → (seen : Files) → map.from_entries files ≡ seen → (file : FileId) (path : List ℕ)
    → number_of (map.get seen path) ≡ Some file.0 → path_of seen file ≡ Some path
number_back files paths inverse seen is file path h =
    let told = at_number files paths inverse seen is file in
    sym (first_path seen file (at nat_cmp file.0 paths) told) ∙ (told path).1 h
