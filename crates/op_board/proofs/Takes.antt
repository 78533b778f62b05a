-- What a take answers after a run.
use Rattle.std.proofs.Common.{◌≡◌, ℕ, ◌||◌, List, [], ◌∷◌, refl, ap, sym, subst, ◌∙◌, arith}
use Rattle.std.specs.Prelude.{T, Decides, None, is_some, map as each}
use Rattle.std.specs.List.{Contains, AllByRecursion, list_any}
use Rattle.std.specs.List.Sorted.{IsStrictlySortedBy}
use Rattle.std.specs.Ordering.{nat_cmp, eq_by_cmp, is_lt}
use Rattle.std.specs.declared.cmp.Ordering.{Ordering}
use Rattle.std.specs.declared.cmp.Ordering.TheVariants.{Less, Equal, Greater}
use Rattle.std.specs.Cmp.{unsigned_Decides, unsigned_tied}
use Rattle.std.specs.FinMap as map
use Rattle.std.specs.FinMap.Entries.{below_all}
use Rattle.std.proofs.lemmas.Bool.Decides.{Decides-like}
use Rattle.std.proofs.lemmas.Map.Made.{is_member-Decides}
use Rattle.docs_vfs.specs.declared.file_kinds.FileId.{FileId}
use Rattle.op_board.specs.Marked.{Marked, files_at, if_any, taken}
use Rattle.op_board.specs.Acts.{Act, after}
use Rattle.op_board.specs.Runs.{same_file}
use Rattle.op_board.specs.Changes.{ChangedSince, files_in, ListsChanges}
use Rattle.op_board.proofs.RowLemmas.{front, back}
use Rattle.op_board.proofs.CheckMarks.{marked_exactly}

-- ---- rising

less : (o : Ordering) → T (is_lt o) → o ≡ Less
less Less t = refl
less Equal t = absurd t
less Greater t = absurd t

module _ {K X : Type 0} (R : K → K → Ordering) where
  below_keys : (x : K) (es : List (K × X)) → T (below_all R x es) → AllByRecursion (λ y. R x y ≡ Less) (each (λ e. e.0) es)
  below_keys x [] h = tt
  below_keys x (e ∷ es) h = (less (R x e.0) (front _ _ h), below_keys x es (back (is_lt (R x e.0)) _ h))

  sorted_keys : (es : List (K × X)) → T (map.is_sorted R es) → IsStrictlySortedBy R (each (λ e. e.0) es)
  unfolding IsStrictlySortedBy
  sorted_keys [] h = tt
  sorted_keys (e ∷ es) h = (below_keys e.0 es (front _ _ h), sorted_keys es (back (below_all R e.0 es) _ h))

numbers_are : (numbers : List ℕ) → each (λ (file : FileId). file.0) (files_at numbers) ≡ numbers
numbers_are [] = refl
numbers_are (n ∷ ns) = ap (λ l. n ∷ l) (numbers_are ns)

-- ---- which files

file_told : (f g : FileId) → Decides (same_file f g) (f ≡ g)
file_told f g = Decides-like _ (λ h i. record { 0 = h i }) (λ e. ap (λ (f : FileId). f.0) e) (unsigned_Decides f.0 g.0)

member_is : (numbers : List ℕ) (file : FileId) → list_any (same_file file) (files_at numbers) ≡ list_any (eq_by_cmp nat_cmp file.0) numbers
member_is [] file = refl
member_is (n ∷ ns) file = λ i. sym (unsigned_tied file.0 n) i || member_is ns file i

marked_is : (m : Marked) (file : FileId) → Decides (is_some (map.get m file.0)) (Contains (files_at (map.keys m)) file)
marked_is m file =
    subst (λ b. Decides b (Contains (files_at (map.keys m)) file)) (member_is (map.keys m) file ∙ sym (map.contains_key-keys m file.0))
    (is_member-Decides file_told (files_at (map.keys m)) file)

files_are : (files : List FileId) → files_in (if_any files) ≡ files
files_are [] = refl
files_are (f ∷ fs) = refl

nothing : (files : List FileId) → ((f : FileId) → Contains files f → ⊥) → if_any files ≡ None
nothing [] none = refl
nothing (f ∷ fs) none = absurd (none f (0, omega arith, refl))

none_in : (f : FileId) → Contains [] f → ⊥
none_in f h = omega (arith, h.1)

pub lists_changes : (run : List Act) → ListsChanges (taken (after run).marked) run
lists_changes run =
    let m = (after run).marked in
    let files = files_at (map.keys m) in
    let are : files_in (taken m) ≡ files = files_are files in
    let to : (file : FileId) → Contains files file → ChangedSince file run = λ file h. (marked_exactly file run).0 ((marked_is m file).1 h) in
    let from : (file : FileId) → ChangedSince file run → Contains files file = λ file h. (marked_is m file).0 ((marked_exactly file run).1 h) in
    record {
      changed = λ file. (λ h. to file (subst (λ fs. Contains fs file) are h), λ h. subst (λ fs. Contains fs file) (sym are) (from file h));
      rising = subst (IsStrictlySortedBy nat_cmp) (sym (ap (λ fs. each (λ (file : FileId). file.0) fs) are ∙ numbers_are (map.keys m))) (sorted_keys nat_cmp (map.entries m) (map.entries_sorted m));
      none = (
        λ none file h. none_in file (subst (λ fs. Contains fs file) (sym are ∙ ap files_in none) (from file h)),
        λ unchanged. nothing files (λ file h. unchanged file (to file h)),
      );
    }
