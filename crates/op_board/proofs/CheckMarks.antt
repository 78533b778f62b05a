-- A file is marked exactly where one of its lists changed since the last take, those of the checks too.
use Rattle.std.proofs.Common.{◌≡◌, ◌↔◌, ℕ, ◌<◌, ◌+◌, Bool, true, false, ◌&&◌, ◌||◌, List, [], ◌∷◌, ◌++◌, length, length-append, inl, inr, refl, ap, sym, subst, ◌∙◌, ⊎_elim, arith}
use Rattle.std.specs.Prelude.{◌≢◌, ◌⊎◌, Option, None, Some, cond, not, is_some, nat_lt, option_to_list}
use Rattle.std.specs.List.{list_any}
use Rattle.std.specs.Cmp.{nat_cmp_total, tied_itself}
use Rattle.std.specs.Cmp.Lexicographic.{pointwise, pointwise_decides}
use Rattle.std.specs.Ordering.{nat_cmp, is_eq}
use Rattle.std.specs.FinMap as map
use Rattle.std.proofs.lemmas.Bool.{cases_Bool, cond_both, cond-true, cond-false, true≢false, eqb-true, and_parts, and_from, or_left, or_right, and_right, false_from_ne_true, ltb-true}
use Rattle.docs_vfs.specs.declared.file_kinds.FileId.{FileId}
use Rattle.lsp_types.specs.declared.diagnostic.Diagnostic.{Diagnostic}
use Rattle.op_board.specs.declared.diagnostic.NativePass.{NativePass}
use Rattle.op_board.specs.declared.diagnostic.NativePass.TheVariants.{Syntax, Semantic}
use Rattle.op_board.specs.declared.check_package.CheckPackage.{CheckPackage}
use Rattle.op_board.specs.declared.check_package.CheckEntry.{CheckEntry}
use Rattle.lsp_types.specs.Diagnostics.{same_diagnostic, diagnostic_told}
use Rattle.op_board.specs.Packages.{package_cmp}
use Rattle.op_board.specs.Marked.{Marked, mark}
use Rattle.op_board.specs.Board.{has_some}
use Rattle.op_board.specs.Checks.{Packages, Checks, listed, list_in, new_package, add_entry, renewed, add_to, package_or_new, packages_or_none, older_than, drops_at, mark_package, drop_package, forget, drop_in, sift}
use Rattle.op_board.specs.Acts.{Act, after}
use Rattle.op_board.specs.Acts.Act.{Counts, Gives, Clears, Adds, Forgets, ForgetsIn, ForgetsOlder, ForgetsOlderIn, ForgetsAll, Takes}
use Rattle.op_board.specs.Runs.{same_file, stored}
use Rattle.op_board.specs.CheckRuns.{same_id, same_name, package_in, package_at, listed_in}
use Rattle.op_board.specs.Changes.{Place, said, Differs, Changes, ChangedSince}
use Rattle.op_board.specs.Changes.Place.{OfPass, OfPackage}
use Rattle.op_board.proofs.PackageOrder.{package_total, package_same}
use Rattle.op_board.proofs.RowLemmas.{AllRows, found_any, any_found, each_row}
use Rattle.op_board.proofs.SoundRows.{Sound, package_mark, any_says, packages_mark, any_lost, dropped_mark, checks_mark, new_sound, added_sound}
use Rattle.op_board.proofs.MarkRuns.{is_marked, differ, changes, given_marks, clears_mark, marked_if, and_true}
use Rattle.op_board.proofs.PackageRuns.{no_more, put_list, put_listed, dropped, id_is, name_is, same_checks, forget_at, drop_at, sift_at, add_at, or_none_at, lists_are}

-- ---- every package is sound

abbrev SoundAt : Option CheckPackage → Type 0
SoundAt None = Unit {0}
SoundAt (Some p) = Sound p

sound_by : (t : Bool) (x y : Option CheckPackage) → SoundAt x → SoundAt y → SoundAt (cond t x y)
sound_by true x y h k = h
sound_by false x y h k = k

sound_dropped : (drops : CheckPackage → Bool) (o : Option CheckPackage) → SoundAt o → SoundAt (dropped drops o)
sound_dropped drops None k = tt
sound_dropped drops (Some p) k = sound_by (drops p) None (Some p) tt k

sound_added : (g : ℕ) (e : CheckEntry) (o : Option CheckPackage) (m : Marked) → SoundAt o → SoundAt (Some (add_to g e (package_or_new g o, m)).0)
sound_added g e None m k = added_sound g e (new_package g) m (new_sound g)
sound_added g e (Some p) m k = added_sound g e p m k

sound_or_none : (name : Option (List ℕ)) (o : Option Packages) → SoundAt (package_in name o) → SoundAt (map.get (packages_or_none o) name)
sound_or_none name o k = subst SoundAt (sym (or_none_at name o)) k

pub sound : (run : List Act) (id : ℕ) (name : Option (List ℕ)) → SoundAt (package_at id name (after run).checks)
sound [] id name = subst SoundAt (sym (ap (package_in name) (map.get-empty nat_cmp id))) tt
sound (Counts ∷ before) id name = sound before id name
sound (Gives p g f l ∷ before) id name = subst (λ (checks : Checks). SoundAt (package_at id name checks)) (sym (same_checks p g f l (after before))) (sound before id name)
sound (Clears f ∷ before) id name = sound before id name
sound (Adds i g n e ∷ before) id name =
    let b = after before in
    let packages = packages_or_none (map.get b.checks i) in
    subst SoundAt (sym (add_at id name i g n e b.checks b.marked))
    (sound_by (same_id id i) _ (package_at id name b.checks)
    (sound_by (same_name name n) (Some (add_to g e (package_or_new g (map.get packages n), b.marked)).0) (map.get packages name)
    (sound_added g e (map.get packages n) b.marked (sound_or_none n (map.get b.checks i) (sound before i n)))
    (sound_or_none name (map.get b.checks i) (sound before i name)))
    (sound before id name))
sound (Forgets i ∷ before) id name =
    let b = after before in
    subst SoundAt (sym (forget_at id name i (map.get b.checks i) b.checks b.marked refl)) (sound_by (same_id id i) None (package_at id name b.checks) tt (sound before id name))
sound (ForgetsIn i n ∷ before) id name =
    let b = after before in
    subst SoundAt (sym (drop_at id name (drops_at None) i n (map.get b.checks i) b.checks b.marked refl))
    (sound_by (same_id id i && same_name name n) _ _ (sound_dropped (drops_at None) (package_at id name b.checks) (sound before id name)) (sound before id name))
sound (ForgetsOlder i g ∷ before) id name =
    let b = after before in
    subst SoundAt (sym (sift_at id name (older_than g) i (map.get b.checks i) b.checks b.marked refl))
    (sound_by (same_id id i) _ _ (sound_dropped (older_than g) (package_at id name b.checks) (sound before id name)) (sound before id name))
sound (ForgetsOlderIn i n g ∷ before) id name =
    let b = after before in
    subst SoundAt (sym (drop_at id name (drops_at (Some g)) i n (map.get b.checks i) b.checks b.marked refl))
    (sound_by (same_id id i && same_name name n) _ _ (sound_dropped (drops_at (Some g)) (package_at id name b.checks) (sound before id name)) (sound before id name))
sound (ForgetsAll ∷ before) id name = subst SoundAt (sym (ap (package_in name) (map.get-empty nat_cmp id))) tt
sound (Takes ∷ before) id name = sound before id name

sound_is : (o : Option CheckPackage) (p : CheckPackage) → o ≡ Some p → SoundAt o → Sound p
sound_is o p is k = subst SoundAt is k

-- all packages of a check are sound
rows_sound : (run : List Act) (id : ℕ) (packages : Packages) → map.get (after run).checks id ≡ Some packages → AllRows Sound (map.entries packages)
rows_sound run id packages is =
    each_row package_total package_same Sound (map.entries packages) (map.entries_sorted packages) (λ name p found.
    sound_is (package_at id name (after run).checks) p (ap (package_in name) is ∙ map.get-entries packages name ∙ found) (sound run id name))

both_below : (g n : ℕ) → g < n → n < g → ⊥
both_below g n a b = omega (arith, a, b)

one_longer : (n : ℕ) → n ≡ n + 1 → ⊥
one_longer n e = omega (arith, e)

grows : (xs : List Diagnostic) (d : Diagnostic) → xs ≡ xs ++ d ∷ [] → ⊥
grows xs d e = one_longer (length xs) (ap length e ∙ length-append xs (d ∷ []))

-- ---- what differs

differs_if : (x y : List Diagnostic) → differ x y ≡ true → x ≢ y
differs_if x y is e = true≢false (sym is ∙ ap not ((pointwise_decides diagnostic_told x y).1 e))

differ_if : (x y : List Diagnostic) → x ≢ y → differ x y ≡ true
differ_if x y apart =
    ⊎_elim (λ same. absurd (apart ((pointwise_decides diagnostic_told x y).0 same))) (λ other. ap not other) (cases_Bool (pointwise same_diagnostic x y))

some_if : (x : List Diagnostic) → x ≢ [] → has_some x ≡ true
some_if [] apart = absurd (apart refl)
some_if (d ∷ ds) apart = refl

not_none : (x : List Diagnostic) → has_some x ≡ true → x ≢ []
not_none x some e = true≢false (sym some ∙ ap has_some e)

or_either : {P : Type 0} (a b : Bool) → (a || b) ≡ true → (a ≡ true → P) → (b ≡ true → P) → P
or_either true b is h k = h refl
or_either false b is h k = k is

-- a mark, by a test that says whether something changed
tells : {D : Type 0} (x m n : Bool) → n ≡ (x || m) → (x ≡ true → D) → (D → x ≡ true) → (n ≡ true) ↔ (D ⊎ (m ≡ true))
tells x m n is to from = (
  λ marked. or_either x m (sym is ∙ marked) (λ h. inl (to h)) (λ h. inr h),
  λ why. is ∙ ⊎_elim (λ d. or_left x m (from d)) (λ h. or_right x m h) why,
)

not_older : (g n : ℕ) → nat_lt g n ≡ true → nat_lt n g ≡ false
not_older g n lt = false_from_ne_true (nat_lt n g) (λ gt. both_below g n (ltb-true g n lt) (ltb-true n g gt))

same_itself : (i : ℕ) → same_id i i ≡ true
same_itself i = ap is_eq (tied_itself nat_cmp_total i)

name_itself : (n : Option (List ℕ)) → same_name n n ≡ true
name_itself n = ap is_eq (tied_itself package_total n)

module _ (file : FileId) where
  abbrev L : List Act → ℕ → Option (List ℕ) → List Diagnostic
  L run id name = listed_in file (package_at id name (after run).checks)

  differs_at : (old new : List Act) (id : ℕ) (name : Option (List ℕ)) → L old id name ≢ L new id name → Differs file old new
  differs_at old new id name apart = (OfPackage id name, λ e. apart (lists_are id name old file ∙ e ∙ sym (lists_are id name new file)))

  from_place : (old new : List Act) (x : Bool) → ((pass : NativePass) → stored pass file old ≡ stored pass file new)
      → ((id : ℕ) (name : Option (List ℕ)) → L old id name ≢ L new id name → x ≡ true) → (place : Place) → said place file old ≢ said place file new → x ≡ true
  from_place old new x same from (OfPass pass) apart = absurd (apart (same pass))
  from_place old new x same from (OfPackage id name) apart = from id name (λ e. apart (sym (lists_are id name old file) ∙ e ∙ lists_are id name new file))

  -- a package that is there, and says something, and then is not there
  goes : (old new : List Act) (id : ℕ) (name : Option (List ℕ)) (p : CheckPackage) → package_at id name (after old).checks ≡ Some p → has_some (list_in file p) ≡ true
      → package_at id name (after new).checks ≡ None → Differs file old new
  goes old new id name p is some none = differs_at old new id name (λ e. not_none (list_in file p) some (sym (ap (listed_in file) is) ∙ e ∙ ap (listed_in file) none))

  -- what a package says that a test drops
  abbrev lost : (CheckPackage → Bool) → Option CheckPackage → Bool
  lost drops None = false
  lost drops (Some p) = drops p && has_some (list_in file p)

  lost_if : (drops : CheckPackage → Bool) (t : Bool) (o : Option CheckPackage) → listed_in file o ≢ listed_in file (cond t (dropped drops o) o) → (t ≡ true) × (lost drops o ≡ true)
  lost_if drops false o apart = absurd (apart refl)
  lost_if drops true None apart = absurd (apart refl)
  lost_if drops true (Some p) apart =
      ⊎_elim
      (λ is. (refl, and_from _ _ is (some_if (list_in file p) (λ e. apart (e ∙ sym (ap (listed_in file) (cond-true (drops p) None (Some p) is)))))))
      (λ isnt. absurd (apart (sym (ap (listed_in file) (cond-false (drops p) None (Some p) isnt)))))
      (cases_Bool (drops p))

  lost_some : (drops : CheckPackage → Bool) (o : Option CheckPackage) → lost drops o ≡ true
      → (p : CheckPackage) × (o ≡ Some p) × (drops p ≡ true) × (has_some (list_in file p) ≡ true)
  lost_some drops None is = absurd (true≢false (sym is))
  lost_some drops (Some p) is = let parts = and_parts _ _ is in (p, refl, parts.0, parts.1)

  -- ---- one package is dropped

  cond_mark : (t : Bool) (packages rest : Packages) (p : CheckPackage) (m : Marked) → Sound p
      → is_some (map.get (cond {A = Packages × Marked} t (rest, mark_package p m) (packages, m)).1 file.0) ≡ ((t && has_some (list_in file p)) || is_some (map.get m file.0))
  cond_mark true packages rest p m k = package_mark file p m k
  cond_mark false packages rest p m k = refl

  one_mark : (drops : CheckPackage → Bool) (n : Option (List ℕ)) (o : Option CheckPackage) (packages : Packages) (m : Marked) → SoundAt o
      → is_some (map.get (drop_package drops n o (packages, m)).1 file.0) ≡ (lost drops o || is_some (map.get m file.0))
  one_mark drops n None packages m k = refl
  one_mark drops n (Some p) packages m k = cond_mark (drops p) packages (map.remove packages n) p m k

  in_mark : (drops : CheckPackage → Bool) (i : ℕ) (n : Option (List ℕ)) (o : Option Packages) (checks : Checks) (m : Marked) → SoundAt (package_in n o)
      → is_some (map.get (drop_in drops i n o (checks, m)).1 file.0) ≡ (lost drops (package_in n o) || is_some (map.get m file.0))
  in_mark drops i n None checks m k = refl
  in_mark drops i n (Some packages) checks m k = one_mark drops n (map.get packages n) packages m k

  says_some : (packages : Packages) (name : Option (List ℕ)) (o : Option CheckPackage) → map.get packages name ≡ o → has_some (listed_in file o) ≡ true → any_says file (map.entries packages) ≡ true
  says_some packages name None is some = absurd (true≢false (sym some))
  says_some packages name (Some p) is some = found_any package_cmp (λ p. has_some (list_in file p)) (map.entries packages) name p (sym (map.get-entries packages name) ∙ is) some

  module _ (before new : List Act) (same : (pass : NativePass) → stored pass file before ≡ stored pass file new) where
    -- the act drops a package, if the test does
    abbrev DropsOne : (CheckPackage → Bool) → ℕ → Option (List ℕ) → Type 0
    DropsOne drops i n = let b = after before in (after new).checks ≡ (drop_in drops i n (map.get b.checks i) (b.checks, b.marked)).0

    one_is : (drops : CheckPackage → Bool) (i : ℕ) (n : Option (List ℕ)) → DropsOne drops i n → (id : ℕ) (name : Option (List ℕ))
        → package_at id name (after new).checks ≡ cond (same_id id i && same_name name n) (dropped drops (package_at id name (after before).checks)) (package_at id name (after before).checks)
    one_is drops i n is id name =
        let b = after before in ap (package_at id name) is ∙ drop_at id name drops i n (map.get b.checks i) b.checks b.marked refl

    one_to : (drops : CheckPackage → Bool) (i : ℕ) (n : Option (List ℕ)) → DropsOne drops i n → lost drops (package_at i n (after before).checks) ≡ true → Differs file before new
    one_to drops i n is h =
        let o = package_at i n (after before).checks in
        let some = lost_some drops o h in
        goes before new i n some.0 some.1 some.3 (
        one_is drops i n is i n
        ∙ cond-true _ _ _ (and_from _ _ (same_itself i) (name_itself n))
        ∙ ap (dropped drops) some.1
        ∙ cond-true _ _ _ some.2
        )

    one_from : (drops : CheckPackage → Bool) (i : ℕ) (n : Option (List ℕ)) → DropsOne drops i n → Differs file before new → lost drops (package_at i n (after before).checks) ≡ true
    one_from drops i n is d =
        from_place before new _ same (λ id name apart.
        let c = (after before).checks in
        let parts = lost_if drops (same_id id i && same_name name n) (package_at id name c) (λ e. apart (e ∙ sym (ap (listed_in file) (one_is drops i n is id name)))) in
        let keys = and_parts _ _ parts.0 in
        sym (λ j. lost drops (package_at (id_is id i keys.0 j) (name_is name n keys.1 j) c)) ∙ parts.1)
        d.0 d.1

    -- ---- packages of a whole check are dropped

    -- what the packages of a check say that a test drops
    abbrev lost_in : (CheckPackage → Bool) → Option Packages → Bool
    lost_in drops None = false
    lost_in drops (Some packages) = any_lost file drops (map.entries packages)

    lost_in_some : (drops : CheckPackage → Bool) (o : Option Packages) → lost_in drops o ≡ true
        → (name : Option (List ℕ)) × (p : CheckPackage) × (package_in name o ≡ Some p) × ((drops p && has_some (list_in file p)) ≡ true)
    lost_in_some drops None is = absurd (true≢false (sym is))
    lost_in_some drops (Some packages) is =
        let found = any_found package_total package_same (λ p. drops p && has_some (list_in file p)) (map.entries packages) (map.entries_sorted packages) is in
        (found.0, found.1, map.get-entries packages found.0 ∙ found.2, found.3)

    lost_in_from : (drops : CheckPackage → Bool) (o : Option Packages) (name : Option (List ℕ)) → lost drops (package_in name o) ≡ true → lost_in drops o ≡ true
    lost_in_from drops None name is = absurd (true≢false (sym is))
    lost_in_from drops (Some packages) name is =
        let some = lost_some drops (map.get packages name) is in
        found_any package_cmp (λ p. drops p && has_some (list_in file p)) (map.entries packages) name some.0
        (sym (map.get-entries packages name) ∙ some.1) (and_from _ _ some.2 some.3)

    abbrev DropsIn : (CheckPackage → Bool) → ℕ → Type 0
    DropsIn drops i = (id : ℕ) (name : Option (List ℕ))
        → package_at id name (after new).checks ≡ cond (same_id id i) (dropped drops (package_at id name (after before).checks)) (package_at id name (after before).checks)

    in_to : (drops : CheckPackage → Bool) (i : ℕ) → DropsIn drops i → lost_in drops (map.get (after before).checks i) ≡ true → Differs file before new
    in_to drops i is h =
        let some = lost_in_some drops (map.get (after before).checks i) h in
        let parts = and_parts _ _ some.3 in
        goes before new i some.0 some.1 some.2 parts.1 (
        is i some.0
        ∙ cond-true _ _ _ (same_itself i)
        ∙ ap (dropped drops) some.2
        ∙ cond-true _ _ _ parts.0
        )

    in_from : (drops : CheckPackage → Bool) (i : ℕ) → DropsIn drops i → Differs file before new → lost_in drops (map.get (after before).checks i) ≡ true
    in_from drops i is d =
        from_place before new _ same (λ id name apart.
        let c = (after before).checks in
        let parts = lost_if drops (same_id id i) (package_at id name c) (λ e. apart (e ∙ sym (ap (listed_in file) (is id name)))) in
        lost_in_from drops (map.get c i) name (sym (λ j. lost drops (package_at (id_is id i parts.0 j) name c)) ∙ parts.1))
        d.0 d.1

    -- ---- all checks are forgotten

    abbrev lost_all : Checks → Bool
    lost_all checks = list_any (λ row. any_says file (map.entries row.1)) (map.entries checks)

    all_to : (after new).checks ≡ map.empty → lost_all (after before).checks ≡ true → Differs file before new
    all_to is h =
        let c = (after before).checks in
        let check = any_found nat_cmp_total map.nat_cmp-IsAntisymmetric (λ (packages : Packages). any_says file (map.entries packages)) (map.entries c) (map.entries_sorted c) h in
        let found = any_found package_total package_same (λ p. has_some (list_in file p)) (map.entries check.1) (map.entries_sorted check.1) check.3 in
        goes before new check.0 found.0 found.1
        (ap (package_in found.0) (map.get-entries c check.0 ∙ check.2) ∙ map.get-entries check.1 found.0 ∙ found.2)
        found.3
        (ap (package_at check.0 found.0) is ∙ ap (package_in found.0) (map.get-empty nat_cmp check.0))

    all_some : (checks : Checks) (id : ℕ) (name : Option (List ℕ)) (o : Option Packages) → map.get checks id ≡ o → has_some (listed_in file (package_in name o)) ≡ true → lost_all checks ≡ true
    all_some checks id name None is some = absurd (true≢false (sym some))
    all_some checks id name (Some packages) is some =
        found_any nat_cmp (λ (packages : Packages). any_says file (map.entries packages)) (map.entries checks) id packages (sym (map.get-entries checks id) ∙ is)
        (says_some packages name (map.get packages name) refl some)

    all_from : (after new).checks ≡ map.empty → Differs file before new → lost_all (after before).checks ≡ true
    all_from is d =
        from_place before new _ same (λ id name apart.
        let c = (after before).checks in
        all_some c id name (map.get c id) refl
        (some_if _ (λ e. apart (e ∙ sym (ap (listed_in file) (ap (package_at id name) is ∙ ap (package_in name) (map.get-empty nat_cmp id)))))))
        d.0 d.1

  -- ---- an entry comes

  module _ (g : ℕ) (e : CheckEntry) where
    abbrev known : CheckPackage → Bool
    known p = list_any (same_diagnostic e.diagnostic) (list_in e.file p)

    -- whether the entry is new to the file
    abbrev comes : CheckPackage → Marked → Bool
    comes p m = not (nat_lt g p.generation) && (same_file file e.file && not (known (renewed g (p, m)).0))

    known_mark : (k : Bool) (p q : CheckPackage) (m : Marked)
        → is_some (map.get (cond {A = CheckPackage × Marked} k (p, m) (q, mark e.file m)).1 file.0) ≡ ((same_file file e.file && not k) || is_some (map.get m file.0))
    known_mark true p q m = marked_if false e.file m file.0
    known_mark false p q m = marked_if true e.file m file.0

    entry_mark : (x : CheckPackage × Marked) → is_some (map.get (add_entry e x).1 file.0) ≡ ((same_file file e.file && not (known x.0)) || is_some (map.get x.1 file.0))
    entry_mark x = known_mark (known x.0) x.0 _ x.1

    renewed_mark : (t : Bool) (p q : CheckPackage) (m : Marked) → Sound p
        → is_some (map.get (cond {A = CheckPackage × Marked} t (q, mark_package p m) (p, m)).1 file.0) ≡ ((t && has_some (list_in file p)) || is_some (map.get m file.0))
    renewed_mark true p q m k = package_mark file p m k
    renewed_mark false p q m k = refl

    add_mark : (p : CheckPackage) (m : Marked) → Sound p
        → is_some (map.get (add_to g e (p, m)).1 file.0) ≡ (comes p m || ((older_than g p && has_some (list_in file p)) || is_some (map.get m file.0)))
    add_mark p m k =
        let r = renewed g (p, m) in
        let new = same_file file e.file && not (known r.0) in
        let says = has_some (list_in file p) in
        let was = is_some (map.get m file.0) in
        cond_both (nat_lt g p.generation) (p, m) (add_entry e r) (λ (x : CheckPackage × Marked). is_some (map.get x.1 file.0) ≡ (comes p m || ((older_than g p && says) || was)))
        (λ lt. sym (λ i. (not (lt i) && new) || ((not_older g p.generation lt i && says) || was)))
        (λ nlt.
        entry_mark r
        ∙ ap (λ b. new || b) (renewed_mark (older_than g p) p (new_package g) m k)
        ∙ sym (λ i. (not (nlt i) && new) || ((older_than g p && says) || was)))

    known_list : (k : Bool) (p : CheckPackage) (m n : Marked)
        → list_in file (cond {A = CheckPackage × Marked} k (p, m) (
          record {
            generation = p.generation;
            lists = map.insert p.lists e.file.0 (list_in e.file p ++ e.diagnostic ∷ []);
            fixes = p.fixes ++ option_to_list e.fix;
          },
          n,
        )).0 ≡ list_in file p ++ cond (same_file file e.file && not k) (e.diagnostic ∷ []) []
    known_list true p m n = sym (ap (λ b. list_in file p ++ cond b (e.diagnostic ∷ []) []) (and_right (same_file file e.file) false refl) ∙ no_more (list_in file p))
    known_list false p m n =
        ap listed (put_list p.lists e.file.0 file.0 (list_in e.file p ++ e.diagnostic ∷ []))
        ∙ put_listed (same_file file e.file) (list_in e.file p) e.diagnostic (map.get p.lists file.0) (λ here. ap (λ q. listed (map.get p.lists q)) (sym (eqb-true file.0 e.file.0 here)))
        ∙ ap (λ b. list_in file p ++ cond b (e.diagnostic ∷ []) []) (and_true (same_file file e.file))

    renewed_list : (t : Bool) (p : CheckPackage) (m n : Marked)
        → list_in file (cond {A = CheckPackage × Marked} t (new_package g, n) (p, m)).0 ≡ listed_in file (cond t None (Some p))
    renewed_list true p m n = ap listed (map.get-empty nat_cmp file.0)
    renewed_list false p m n = refl

    -- what the package says of the file is what it said, where it isn't older, and then the entry if it is new
    add_list : (p : CheckPackage) (m : Marked)
        → list_in file (add_to g e (p, m)).0 ≡ listed_in file (dropped (older_than g) (Some p)) ++ cond (comes p m) (e.diagnostic ∷ []) []
    add_list p m =
        let r = renewed g (p, m) in
        let new = same_file file e.file && not (known r.0) in
        cond_both (nat_lt g p.generation) (p, m) (add_entry e r)
        (λ (x : CheckPackage × Marked). list_in file x.0 ≡ listed_in file (dropped (older_than g) (Some p)) ++ cond (comes p m) (e.diagnostic ∷ []) [])
        (λ lt. sym ((λ i. listed_in file (cond (not_older g p.generation lt i) None (Some p)) ++ cond (not (lt i) && new) (e.diagnostic ∷ []) []) ∙ no_more (list_in file p)))
        (λ nlt.
        known_list (known r.0) r.0 r.1 _
        ∙ ap (λ l. l ++ cond new (e.diagnostic ∷ []) []) (renewed_list (older_than g p) p m (mark_package p m))
        ∙ sym (λ i. listed_in file (dropped (older_than g) (Some p)) ++ cond (not (nlt i) && new) (e.diagnostic ∷ []) []))

    new_list : (t : Bool) → [] ≡ listed_in file (cond t None (Some (new_package g)))
    new_list true = refl
    new_list false = sym (ap listed (map.get-empty nat_cmp file.0))

    before_is : (o : Option CheckPackage) → listed_in file (dropped (older_than g) o) ≡ listed_in file (dropped (older_than g) (Some (package_or_new g o)))
    before_is None = new_list (nat_lt g g)
    before_is (Some p) = refl

    lost_is : (o : Option CheckPackage) → lost (older_than g) o ≡ (older_than g (package_or_new g o) && has_some (list_in file (package_or_new g o)))
    lost_is None = sym (ap (λ l. nat_lt g g && has_some l) (ap listed (map.get-empty nat_cmp file.0)) ∙ and_right (nat_lt g g) false refl)
    lost_is (Some p) = refl

    or_new_sound : (o : Option CheckPackage) → SoundAt o → Sound (package_or_new g o)
    or_new_sound None k = new_sound g
    or_new_sound (Some p) k = k
    -- ---- the acts

  case_of : {C : Type 0} (a b : Bool) (x y z new : Option CheckPackage) → (a ≡ true → y ≡ z) → (a ≡ true → b ≡ true → listed_in file x ≢ listed_in file new → C)
      → listed_in file (cond (a && b) x z) ≢ listed_in file (cond a (cond b new y) z) → C
  case_of true true x y z new same says apart = says refl refl apart
  case_of true false x y z new same says apart = absurd (apart (ap (listed_in file) (sym (same refl))))
  case_of false b x y z new same says apart = absurd (apart refl)

  comes_if : (t : Bool) (d : Diagnostic) (old new : List Diagnostic) → new ≡ old ++ cond t (d ∷ []) [] → old ≢ new → t ≡ true
  comes_if true d old new is apart = refl
  comes_if false d old new is apart = absurd (apart (sym (is ∙ no_more old)))

  adds_told : (i g : ℕ) (n : Option (List ℕ)) (e : CheckEntry) (before : List Act)
      → (is_marked file (after (Adds i g n e ∷ before)) ≡ true) ↔ (Changes file (Adds i g n e) before ⊎ (is_marked file (after before) ≡ true))
  adds_told i g n e before =
      let b = after before in
      let o = package_at i n b.checks in
      let at = map.get (packages_or_none (map.get b.checks i)) in
      let here : at n ≡ o = or_none_at n (map.get b.checks i) in
      let p = package_or_new g o in
      let mid = ForgetsOlderIn i n g ∷ before in
      let new = Adds i g n e ∷ before in
      let older = older_than g in
      let t = comes g e p b.marked in
      let marks : is_marked file (after new) ≡ (t || (lost older o || is_marked file b)) =
      ap (λ o. is_some (map.get (add_to g e (package_or_new g o, b.marked)).1 file.0)) here
      ∙ add_mark g e p b.marked (or_new_sound g e o (sound before i n))
      ∙ ap (λ l. t || (l || is_marked file b)) (sym (lost_is g e o)) in
      let grown : listed_in file (Some (add_to g e (package_or_new g (at n), b.marked)).0) ≡ listed_in file (dropped older o) ++ cond t (e.diagnostic ∷ []) [] =
      ap (λ o. list_in file (add_to g e (package_or_new g o, b.marked)).0) here
      ∙ add_list g e p b.marked
      ∙ ap (λ l. l ++ cond t (e.diagnostic ∷ []) []) (sym (before_is g e o)) in
      let first_to = one_to before mid (λ pass. refl) (drops_at (Some g)) i n refl in
      let first_from = one_from before mid (λ pass. refl) (drops_at (Some g)) i n refl in
      let mid_is = one_is before mid (λ pass. refl) (drops_at (Some g)) i n refl in
      let second_to : t ≡ true → Differs file mid new = λ is.
      differs_at mid new i n (λ same.
      grows (listed_in file (dropped older o)) e.diagnostic (
      sym (ap (listed_in file) (mid_is i n ∙ cond-true _ _ _ (and_from _ _ (same_itself i) (name_itself n))))
      ∙ same
      ∙ ap (listed_in file) (add_at i n i g n e b.checks b.marked ∙ cond-true _ _ _ (same_itself i) ∙ cond-true _ _ _ (name_itself n))
      ∙ grown
      ∙ ap (λ t. listed_in file (dropped older o) ++ cond t (e.diagnostic ∷ []) []) is
      )) in
      let second_from : Differs file mid new → t ≡ true = λ d.
      from_place mid new t (λ pass. refl) (λ id name apart.
      case_of (same_id id i) (same_name name n) (dropped older (package_at id name b.checks)) (at name) (package_at id name b.checks) (Some (add_to g e (package_or_new g (at n), b.marked)).0)
      (λ a. or_none_at name (map.get b.checks i) ∙ sym (ap (λ k. package_in name (map.get b.checks k)) (id_is id i a)))
      (λ a c differ.
      comes_if t e.diagnostic (listed_in file (dropped older o)) _ grown
      (λ same. differ ((λ j. listed_in file (dropped older (package_at (id_is id i a j) (name_is name n c j) b.checks))) ∙ same)))
      (λ same. apart (ap (listed_in file) (mid_is id name) ∙ same ∙ sym (ap (listed_in file) (add_at id name i g n e b.checks b.marked)))))
      d.0 d.1 in (
        λ marked. or_either t _ (sym marks ∙ marked) (λ is. inl (inr (second_to is))) (λ rest. or_either (lost older o) _ rest (λ is. inl (inl (first_to is))) (λ was. inr was)),
        λ why. marks ∙ ⊎_elim
            (λ change. ⊎_elim (λ d. or_right t _ (or_left _ (is_marked file b) (first_from d))) (λ d. or_left t _ (second_from d)) change)
            (λ was. or_right t _ (or_right (lost older o) _ was))
            why,
      )

  stored_to : (old new : List Act) → (differ (stored Syntax file old) (stored Syntax file new) || differ (stored Semantic file old) (stored Semantic file new)) ≡ true → Differs file old new
  stored_to old new is =
      or_either (differ (stored Syntax file old) (stored Syntax file new)) _ is
      (λ d. (OfPass Syntax, differs_if (stored Syntax file old) (stored Syntax file new) d))
      (λ d. (OfPass Semantic, differs_if (stored Semantic file old) (stored Semantic file new) d))

  stored_from : (old new : List Act) → ((id : ℕ) (name : Option (List ℕ)) → said (OfPackage id name) file old ≡ said (OfPackage id name) file new)
      → (place : Place) → said place file old ≢ said place file new
      → (differ (stored Syntax file old) (stored Syntax file new) || differ (stored Semantic file old) (stored Semantic file new)) ≡ true
  stored_from old new same (OfPass Syntax) apart = or_left _ _ (differ_if (stored Syntax file old) (stored Syntax file new) apart)
  stored_from old new same (OfPass Semantic) apart = or_right (differ (stored Syntax file old) (stored Syntax file new)) _ (differ_if (stored Semantic file old) (stored Semantic file new) apart)
  stored_from old new same (OfPackage id name) apart = absurd (apart (same id name))

  forget_dropped : (t : Bool) (o : Option CheckPackage) → cond t None o ≡ cond t (dropped (drops_at None) o) o
  forget_dropped true None = refl
  forget_dropped true (Some p) = refl
  forget_dropped false o = refl

  forget_mark : (i : ℕ) (o : Option Packages) (checks : Checks) (m : Marked) (before new : List Act) (same : (pass : NativePass) → stored pass file before ≡ stored pass file new)
      → ((packages : Packages) → o ≡ Some packages → AllRows Sound (map.entries packages))
      → is_some (map.get (forget i o (checks, m)).1 file.0) ≡ (lost_in before new same (drops_at None) o || is_some (map.get m file.0))
  forget_mark i None checks m before new same all = refl
  forget_mark i (Some packages) checks m before new same all = packages_mark file (map.entries packages) m (all packages refl)

  sift_mark : (drops : CheckPackage → Bool) (i : ℕ) (o : Option Packages) (checks : Checks) (m : Marked) (before new : List Act) (same : (pass : NativePass) → stored pass file before ≡ stored pass file new)
      → ((packages : Packages) → o ≡ Some packages → AllRows Sound (map.entries packages))
      → is_some (map.get (sift drops i o (checks, m)).1 file.0) ≡ (lost_in before new same drops o || is_some (map.get m file.0))
  sift_mark drops i None checks m before new same all = refl
  sift_mark drops i (Some packages) checks m before new same all = dropped_mark file drops (map.entries packages) m (all packages refl)

  either : {A B C : Type 0} → (B → C) → A ⊎ B → A ⊎ C
  either f s = ⊎_elim (λ a. inl a) (λ b. inr (f b)) s

  pub marked_exactly : (run : List Act) → (is_marked file (after run) ≡ true) ↔ ChangedSince file run
  marked_exactly [] = (λ is. true≢false (sym is ∙ ap is_some (map.get-empty nat_cmp file.0)), λ none. absurd none)
  marked_exactly (Takes ∷ before) = (λ is. true≢false (sym is ∙ ap is_some (map.get-empty nat_cmp file.0)), λ none. absurd none)
  marked_exactly (Counts ∷ before) =
      let both = marked_exactly before in (
        λ is. inr (both.0 is),
        λ why. ⊎_elim (λ d. absurd (true≢false (sym (from_place before (Counts ∷ before) false (λ pass. refl) (λ id name apart. absurd (apart refl)) d.0 d.1)))) both.1 why,
      )
  marked_exactly (Gives p g f l ∷ before) =
      let both = marked_exactly before in
      let new = Gives p g f l ∷ before in
      let now = tells (changes file (Gives p g f l) before) (is_marked file (after before)) (is_marked file (after new)) (given_marks file p g f l before)
      (stored_to before new) (λ d. stored_from before new (λ id name. refl) d.0 d.1) in
      (λ is. either both.0 (now.0 is), λ why. now.1 (either both.1 why))
  marked_exactly (Clears f ∷ before) =
      let both = marked_exactly before in
      let new = Clears f ∷ before in
      let now = tells (changes file (Clears f) before) (is_marked file (after before)) (is_marked file (after new)) (clears_mark file f before)
      (stored_to before new) (λ d. stored_from before new (λ id name. refl) d.0 d.1) in
      (λ is. either both.0 (now.0 is), λ why. now.1 (either both.1 why))
  marked_exactly (Adds i g n e ∷ before) =
      let both = marked_exactly before in
      let now = adds_told i g n e before in
      (λ is. either both.0 (now.0 is), λ why. now.1 (either both.1 why))
  marked_exactly (Forgets i ∷ before) =
      let both = marked_exactly before in
      let b = after before in
      let new = Forgets i ∷ before in
      let drops = drops_at None in
      let gone : DropsIn before new (λ pass. refl) drops i = λ id name.
      forget_at id name i (map.get b.checks i) b.checks b.marked refl ∙ forget_dropped (same_id id i) (package_at id name b.checks) in
      let now = tells (lost_in before new (λ pass. refl) drops (map.get b.checks i)) (is_marked file b) (is_marked file (after new))
      (forget_mark i (map.get b.checks i) b.checks b.marked before new (λ pass. refl) (rows_sound before i))
      (in_to before new (λ pass. refl) drops i gone) (in_from before new (λ pass. refl) drops i gone) in
      (λ is. either both.0 (now.0 is), λ why. now.1 (either both.1 why))
  marked_exactly (ForgetsIn i n ∷ before) =
      let both = marked_exactly before in
      let b = after before in
      let new = ForgetsIn i n ∷ before in
      let now = tells (lost (drops_at None) (package_at i n b.checks)) (is_marked file b) (is_marked file (after new))
      (in_mark (drops_at None) i n (map.get b.checks i) b.checks b.marked (sound before i n))
      (one_to before new (λ pass. refl) (drops_at None) i n refl) (one_from before new (λ pass. refl) (drops_at None) i n refl) in
      (λ is. either both.0 (now.0 is), λ why. now.1 (either both.1 why))
  marked_exactly (ForgetsOlder i g ∷ before) =
      let both = marked_exactly before in
      let b = after before in
      let new = ForgetsOlder i g ∷ before in
      let gone : DropsIn before new (λ pass. refl) (older_than g) i = λ id name. sift_at id name (older_than g) i (map.get b.checks i) b.checks b.marked refl in
      let now = tells (lost_in before new (λ pass. refl) (older_than g) (map.get b.checks i)) (is_marked file b) (is_marked file (after new))
      (sift_mark (older_than g) i (map.get b.checks i) b.checks b.marked before new (λ pass. refl) (rows_sound before i))
      (in_to before new (λ pass. refl) (older_than g) i gone) (in_from before new (λ pass. refl) (older_than g) i gone) in
      (λ is. either both.0 (now.0 is), λ why. now.1 (either both.1 why))
  marked_exactly (ForgetsOlderIn i n g ∷ before) =
      let both = marked_exactly before in
      let b = after before in
      let new = ForgetsOlderIn i n g ∷ before in
      let now = tells (lost (drops_at (Some g)) (package_at i n b.checks)) (is_marked file b) (is_marked file (after new))
      (in_mark (drops_at (Some g)) i n (map.get b.checks i) b.checks b.marked (sound before i n))
      (one_to before new (λ pass. refl) (drops_at (Some g)) i n refl) (one_from before new (λ pass. refl) (drops_at (Some g)) i n refl) in
      (λ is. either both.0 (now.0 is), λ why. now.1 (either both.1 why))
  marked_exactly (ForgetsAll ∷ before) =
      let both = marked_exactly before in
      let b = after before in
      let new = ForgetsAll ∷ before in
      let now = tells (lost_all before new (λ pass. refl) b.checks) (is_marked file b) (is_marked file (after new))
      (checks_mark file (map.entries b.checks) b.marked
      (each_row nat_cmp_total map.nat_cmp-IsAntisymmetric (λ packages. AllRows Sound (map.entries packages)) (map.entries b.checks) (map.entries_sorted b.checks)
      (λ id packages found. rows_sound before id packages (map.get-entries b.checks id ∙ found))))
      (all_to before new (λ pass. refl) refl) (all_from before new (λ pass. refl) refl) in
      (λ is. either both.0 (now.0 is), λ why. now.1 (either both.1 why))
