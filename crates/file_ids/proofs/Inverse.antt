-- Where a path gets another number, the paths of numbers stay the inverse of the numbers of paths.
use Rattle.std.proofs.Common.{◌≡◌, ℕ, Bool, true, false, cond, List, refl, sym, ap, ◌∙◌, subst, Ordering}
use Rattle.std.specs.Prelude.{◌↔◌, Option, None, Some}
use Rattle.std.specs.declared.cmp.Ordering.TheVariants.{Less, Equal, Greater}
use Rattle.std.specs.Ordering.{nat_cmp, is_eq, eq_by_cmp}
use Rattle.std.specs.Cmp.{IsTotalOrder, tied_itself, nat_cmp_total}
use Rattle.std.specs.Cmp.Lexicographic.{nat_list_cmp_total}
use Rattle.std.specs.FinMap as map
use Rattle.std.specs.FinMap.Entries.{find}
use Rattle.std.proofs.lemmas.Bool.{false≢true}
use Rattle.std.proofs.lemmas.Option.{none-some, same_Some}
use Rattle.shared_map.specs.Entries.{IsInOrder, set_entry}
use Rattle.shared_map.proofs.EntryLemmas.{find_set, order_set}
use Rattle.docs_vfs.specs.Paths.{path_cmp}
use Rattle.docs_vfs.specs.declared.file_kinds.FileId.{FileId}
use Rattle.docs_vfs.specs.declared.file_kinds.FileExcluded.{FileExcluded}
use Rattle.file_ids.specs.Numbers.{IsFree, file_of, number_in, number_of, AreInverse, without_number, with_number}

-- a test that says whether something is so
abbrev pub Says : Bool → Type 0 → Type 0
Says true A = A
Says false A = A → ⊥

says_by : {A B : Type 0} (b : Bool) → Says b A → (A → B) → (B → A) → Says b B
says_by true is to from = to is
says_by false not to from = λ is. not (from is)

module _ {K : Type 0} {R : K → K → Ordering} (o : IsTotalOrder R) (same : map.IsAntisymmetric R) where
  says_by_order : (x y : K) (r : Ordering) → R x y ≡ r → Says (is_eq r) (x ≡ y)
  says_by_order x y Less p = λ e. absurd (false≢true (sym (ap is_eq p) ∙ ap is_eq (subst (λ z. R x z ≡ Equal) e (tied_itself o x))))
  says_by_order x y Equal p = same x y p
  says_by_order x y Greater p = λ e. absurd (false≢true (sym (ap is_eq p) ∙ ap is_eq (subst (λ z. R x z ≡ Equal) e (tied_itself o x))))

  pub says_same : (x y : K) → Says (eq_by_cmp R x y) (x ≡ y)
  says_same x y = says_by_order x y (R x y) refl

abbrev pub same_path : map.IsAntisymmetric path_cmp
same_path = map.slice_cmp-IsAntisymmetric map.nat_cmp-IsAntisymmetric

-- whether this is the number
abbrev is_number : Option FileId → ℕ → Bool
is_number None n = false
is_number (Some file) n = eq_by_cmp nat_cmp n file.0

says_number : (file : Option FileId) (n : ℕ) → Says (is_number file n) (number_in file ≡ Some n)
says_number None n = λ e. none-some n e
says_number (Some file) n =
    says_by (eq_by_cmp nat_cmp n file.0) (says_same nat_cmp_total map.nat_cmp-IsAntisymmetric n file.0) (λ e. ap Some (sym e)) (λ e. sym (same_Some _ _ e))

-- ---- what is found

find_without : (file : Option FileId) (paths : List (ℕ × List ℕ)) (n : ℕ) → IsInOrder nat_cmp paths
    → find nat_cmp n (without_number file paths) ≡ cond (is_number file n) None (find nat_cmp n paths)
find_without None paths n order = refl
find_without (Some file) paths n order = find_set nat_cmp nat_cmp_total n file.0 None paths order

order_without : (file : Option FileId) (paths : List (ℕ × List ℕ)) → IsInOrder nat_cmp paths → IsInOrder nat_cmp (without_number file paths)
order_without None paths order = order
order_without (Some file) paths order = order_set nat_cmp nat_cmp_total file.0 None paths order

find_with : (file : Option FileId) (path : List ℕ) (paths : List (ℕ × List ℕ)) (n : ℕ) → IsInOrder nat_cmp paths
    → find nat_cmp n (with_number file path paths) ≡ cond (is_number file n) (Some path) (find nat_cmp n paths)
find_with None path paths n order = refl
find_with (Some file) path paths n order = find_set nat_cmp nat_cmp_total n file.0 (Some path) paths order

number_of_either : (b : Bool) (x y : Option (FileId × FileExcluded)) → number_of (cond b x y) ≡ cond b (number_of x) (number_of y)
number_of_either true x y = refl
number_of_either false x y = refl

-- ---- one number and one path

-- a path was at the number exactly where the number was the path's, and so it is once one path has another number
at_one : (new old here : Bool) (found : Option (List ℕ)) (path q : List ℕ) (got had has : Option ℕ) (n : ℕ)
    → Says new (got ≡ Some n) → Says old (had ≡ Some n) → Says here (q ≡ path)
    → (found ≡ Some q) ↔ (has ≡ Some n) → (found ≡ Some path) ↔ (had ≡ Some n) → (got ≡ Some n → has ≡ Some n → q ≡ path)
    → (cond new (Some path) (cond old None found) ≡ Some q) ↔ (cond here got has ≡ Some n)
at_one true old true found path q got had has n is _ at _ _ _ = (λ _. is, λ _. ap Some (sym at))
at_one true old false found path q got had has n is _ apart _ _ free = (λ e. absurd (apart (sym (same_Some _ _ e))), λ e. absurd (apart (free is e)))
at_one false true true found path q got had has n not _ at _ _ _ = (λ e. absurd (none-some q e), λ e. absurd (not e))
at_one false false true found path q got had has n not gone at _ was _ = (λ e. absurd (gone (was.0 (e ∙ ap Some at))), λ e. absurd (not e))
at_one false true false found path q got had has n not is apart same was _ =
    (λ e. absurd (none-some q e), λ e. absurd (apart (same_Some _ _ (sym (same.1 e) ∙ was.1 is))))
at_one false false false found path q got had has n _ _ _ same _ _ = same

pub renumbered : (files : List (List ℕ × (FileId × FileExcluded))) (paths : List (ℕ × List ℕ)) (path : List ℕ) (entry : Option (FileId × FileExcluded))
    → AreInverse files paths → IsInOrder path_cmp files → IsInOrder nat_cmp paths
    → ((other : List ℕ) (n : ℕ) → number_of entry ≡ Some n → number_of (find path_cmp other files) ≡ Some n → other ≡ path)
    → AreInverse (set_entry path_cmp path entry files) (with_number (file_of entry) path (without_number (file_of (find path_cmp path files)) paths))
renumbered files paths path entry before files_order paths_order free = record {
  same = λ q n.
      let old = file_of (find path_cmp path files) in
      let new = file_of entry in
      let found = find_with new path (without_number old paths) n (order_without old paths paths_order)
      ∙ ap (cond (is_number new n) (Some path)) (find_without old paths n paths_order) in
      let number = ap number_of (find_set path_cmp nat_list_cmp_total q path entry files files_order)
      ∙ number_of_either (eq_by_cmp path_cmp q path) entry (find path_cmp q files) in
      let core = at_one (is_number new n) (is_number old n) (eq_by_cmp path_cmp q path) (find nat_cmp n paths) path q
      (number_of entry) (number_of (find path_cmp path files)) (number_of (find path_cmp q files)) n
      (says_number new n) (says_number old n) (says_same nat_list_cmp_total same_path q path)
      (before.same q n) (before.same path n) (free q n) in
      (λ e. number ∙ core.0 (sym found ∙ e), λ e. found ∙ core.1 (sym number ∙ e));
}

-- no other path has the number of the entry
pub free_number : (entry : Option (FileId × FileExcluded)) (path : List ℕ) (m : map.FinMap path_cmp (FileId × FileExcluded)) (files : List (List ℕ × (FileId × FileExcluded)))
    → IsFree path (file_of entry) m → ((q : List ℕ) → map.get m q ≡ find path_cmp q files)
    → (other : List ℕ) (n : ℕ) → number_of entry ≡ Some n → number_of (find path_cmp other files) ≡ Some n → other ≡ path
free_number None path m files free seen other n e h = absurd (none-some n e)
free_number (Some entry) path m files free seen other n e h = free other (ap number_of (seen other) ∙ h ∙ sym e)
