-- In every run a package keeps no empty list; so the files that a call marks are those of which the package says
-- something.
use Rattle.std.proofs.Common.{◌≡◌, ℕ, Bool, true, false, ◌&&◌, ◌||◌, List, [], ◌∷◌, ◌++◌, refl, ap, sym, subst, ◌∙◌, ⊎_elim}
use Rattle.std.specs.Prelude.{Option, None, Some, cond, is_some, nat_eq, nat_lt, map as each}
use Rattle.std.specs.List.{list_any}
use Rattle.std.specs.Ordering.{nat_cmp, eq_by_cmp}
use Rattle.std.specs.declared.cmp.Ordering.TheVariants.{Less, Equal, Greater}
use Rattle.std.specs.Cmp.{nat_cmp_total, unsigned_tied}
use Rattle.std.specs.FinMap as map
use Rattle.std.specs.FinMap.Entries.{by_order, put}
use Rattle.std.proofs.lemmas.Bool.{cases_Bool, cond_both, cond-true, cond-false}
use Rattle.docs_vfs.specs.declared.file_kinds.FileId.{FileId}
use Rattle.lsp_types.specs.declared.diagnostic.Diagnostic.{Diagnostic}
use Rattle.op_board.specs.declared.check_package.CheckPackage.{CheckPackage}
use Rattle.op_board.specs.declared.check_package.CheckEntry.{CheckEntry}
use Rattle.op_board.specs.Board.{has_some}
use Rattle.op_board.specs.Marked.{Marked, mark, file_at, mark_all}
use Rattle.op_board.specs.Checks.{Packages, listed, list_in, new_package, add_entry, renewed, add_to, mark_package, mark_packages, mark_checks, mark_dropped}
use Rattle.op_board.proofs.Taken.{entries_empty}
use Rattle.op_board.proofs.RowLemmas.{AllRows}
use Rattle.op_board.proofs.MarkRuns.{marked_by, turned}

abbrev pub SoundRows : List (ℕ × List Diagnostic) → Type 0
SoundRows [] = Unit {0}
SoundRows (row ∷ rows) = (has_some row.1 ≡ true) × SoundRows rows

abbrev pub Sound : CheckPackage → Type 0
Sound p = SoundRows (map.entries p.lists)

sound_put : (k : ℕ) (v : List Diagnostic) (rows : List (ℕ × List Diagnostic)) → has_some v ≡ true → SoundRows rows → SoundRows (put nat_cmp k v rows)
sound_put k v [] some all = (some, tt)
sound_put k v (row ∷ rows) some all =
    let more = sound_put k v rows some all.1 in
    elim (nat_cmp k row.0) as (λ r. SoundRows (by_order r ((k, v) ∷ row ∷ rows) ((row.0, v) ∷ rows) (row ∷ put nat_cmp k v rows))) [
      | Less ↦ (some, all)
      | Equal ↦ (some, all.1)
      | Greater ↦ (all.0, more)
    ]

some_by : {X : Type 0} (here : Bool) (x : X) (o : Option X) → is_some (cond here (Some x) o) ≡ (here || is_some o)
some_by true x o = refl
some_by false x o = refl

rows_mark : (rows : List (ℕ × List Diagnostic)) (m : Marked) (q : ℕ)
    → is_some (map.get (mark_all (each (λ e. e.0) rows) m) q) ≡ (is_some (map.find nat_cmp q rows) || is_some (map.get m q))
rows_mark [] m q = refl
rows_mark (row ∷ rows) m q =
    let there = is_some (map.find nat_cmp q rows) in
    rows_mark rows (mark (file_at row.0) m) q
    ∙ ap (λ b. there || b) (marked_by (file_at row.0) m q)
    ∙ turned (nat_eq q row.0) there (is_some (map.get m q))
    ∙ ap (λ b. (b || there) || is_some (map.get m q)) (sym (unsigned_tied q row.0))
    ∙ ap (λ b. b || is_some (map.get m q)) (sym (some_by (eq_by_cmp nat_cmp q row.0) row.1 (map.find nat_cmp q rows)))

inside : {X : Type 0} (x y : X) → Some x ≡ Some y → x ≡ y
inside x y e = cc

found_has : (rows : List (ℕ × List Diagnostic)) (q : ℕ) (v : List Diagnostic) → SoundRows rows → map.find nat_cmp q rows ≡ Some v → has_some v ≡ true
found_has [] q v all found = absurd cc
found_has (row ∷ rows) q v all found =
    ⊎_elim
    (λ here. subst (λ (l : List Diagnostic). has_some l ≡ true) (inside row.1 v (sym (cond-true _ _ _ here) ∙ found)) all.0)
    (λ away. found_has rows q v all.1 (sym (cond-false _ _ _ away) ∙ found))
    (cases_Bool (eq_by_cmp nat_cmp q row.0))

there_is : (o : Option (List Diagnostic)) → ((v : List Diagnostic) → o ≡ Some v → has_some v ≡ true) → is_some o ≡ has_some (listed o)
there_is None has = refl
there_is (Some v) has = sym (has v refl)

module _ (file : FileId) where
  pub package_mark : (p : CheckPackage) (m : Marked) → Sound p → is_some (map.get (mark_package p m) file.0) ≡ (has_some (list_in file p) || is_some (map.get m file.0))
  package_mark p m sound =
      let rows = map.entries p.lists in
      rows_mark rows m file.0
      ∙ ap (λ b. b || is_some (map.get m file.0)) (
      there_is (map.find nat_cmp file.0 rows) (λ v found. found_has rows file.0 v sound found)
      ∙ ap (λ o. has_some (listed o)) (sym (map.get-entries p.lists file.0)))

  -- whether a package of these rows says something of the file
  abbrev pub any_says : List (Option (List ℕ) × CheckPackage) → Bool
  any_says rows = list_any (λ row. has_some (list_in file row.1)) rows

  pub packages_mark : (rows : List (Option (List ℕ) × CheckPackage)) (m : Marked) → AllRows Sound rows
      → is_some (map.get (mark_packages (each (λ e. e.1) rows) m) file.0) ≡ (any_says rows || is_some (map.get m file.0))
  packages_mark [] m all = refl
  packages_mark (row ∷ rows) m all =
      packages_mark rows (mark_package row.1 m) all.1
      ∙ ap (λ b. any_says rows || b) (package_mark row.1 m all.0)
      ∙ turned (has_some (list_in file row.1)) (any_says rows) (is_some (map.get m file.0))

  mark_by : (drop : Bool) (p : CheckPackage) (m : Marked) → Sound p
      → is_some (map.get (cond drop (mark_package p m) m) file.0) ≡ ((drop && has_some (list_in file p)) || is_some (map.get m file.0))
  mark_by true p m sound = package_mark p m sound
  mark_by false p m sound = refl

  -- whether a package that the test drops says something of the file
  abbrev pub any_lost : (CheckPackage → Bool) → List (Option (List ℕ) × CheckPackage) → Bool
  any_lost drops rows = list_any (λ row. drops row.1 && has_some (list_in file row.1)) rows

  pub dropped_mark : (drops : CheckPackage → Bool) (rows : List (Option (List ℕ) × CheckPackage)) (m : Marked) → AllRows Sound rows
      → is_some (map.get (mark_dropped drops (each (λ e. e.1) rows) m) file.0) ≡ (any_lost drops rows || is_some (map.get m file.0))
  dropped_mark drops [] m all = refl
  dropped_mark drops (row ∷ rows) m all =
      dropped_mark drops rows (cond (drops row.1) (mark_package row.1 m) m) all.1
      ∙ ap (λ b. any_lost drops rows || b) (mark_by (drops row.1) row.1 m all.0)
      ∙ turned (drops row.1 && has_some (list_in file row.1)) (any_lost drops rows) (is_some (map.get m file.0))

  pub checks_mark : (rows : List (ℕ × Packages)) (m : Marked) → AllRows (λ packages. AllRows Sound (map.entries packages)) rows
      → is_some (map.get (mark_checks (each (λ e. e.1) rows) m) file.0) ≡ (list_any (λ row. any_says (map.entries row.1)) rows || is_some (map.get m file.0))
  checks_mark [] m all = refl
  checks_mark (row ∷ rows) m all =
      checks_mark rows (mark_packages (map.values row.1) m) all.1
      ∙ ap (λ b. list_any (λ (row : ℕ × Packages). any_says (map.entries row.1)) rows || b) (packages_mark (map.entries row.1) m all.0)
      ∙ turned (any_says (map.entries row.1)) (list_any (λ (row : ℕ × Packages). any_says (map.entries row.1)) rows) (is_some (map.get m file.0))

-- ---- an entry that comes

pub new_sound : (g : ℕ) → Sound (new_package g)
new_sound g = subst SoundRows (sym (entries_empty {V = List Diagnostic})) tt

ends_in_some : (xs : List Diagnostic) (d : Diagnostic) → has_some (xs ++ d ∷ []) ≡ true
ends_in_some [] d = refl
ends_in_some (x ∷ xs) d = refl

entry_sound : (e : CheckEntry) (p : CheckPackage) (m : Marked) → Sound p → Sound (add_entry e (p, m)).0
entry_sound e p m sound =
    let v = list_in e.file p ++ e.diagnostic ∷ [] in
    cond_both _ _ _ (λ (x : CheckPackage × Marked). Sound x.0) (λ _. sound)
    (λ _. subst SoundRows (sym (map.entries-insert nat_cmp_total p.lists e.file.0 v))
    (sound_put e.file.0 v (map.entries p.lists) (ends_in_some (list_in e.file p) e.diagnostic) sound))

pub added_sound : (g : ℕ) (e : CheckEntry) (p : CheckPackage) (m : Marked) → Sound p → Sound (add_to g e (p, m)).0
added_sound g e p m sound =
    cond_both (nat_lt g p.generation) (p, m) (add_entry e (renewed g (p, m))) (λ (x : CheckPackage × Marked). Sound x.0) (λ _. sound)
    (λ _. cond_both (nat_lt p.generation g) (new_package g, mark_package p m) (p, m) (λ (x : CheckPackage × Marked). Sound (add_entry e x).0)
    (λ _. entry_sound e (new_package g) (mark_package p m) (new_sound g))
    (λ _. entry_sound e p m sound))
