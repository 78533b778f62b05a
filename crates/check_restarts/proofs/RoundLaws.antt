-- The rounds of marks come to rest, and then mark exactly what a change affects.
use Rattle.std.proofs.Common.{◌≡◌, ◌⊎◌, inl, inr, ⊎_elim, ℕ, zero, suc, ◌+◌, ◌≤◌, Bool, true, false, not, cond, List, [], ◌∷◌, length, map, zip, refl, sym, ap, subst, ◌∙◌, arith}
use Rattle.std.specs.Prelude.{IsTrue, count_by, nat_eq}
use Rattle.std.specs.List.{list_any}
use Rattle.std.specs.Fn.{iterate}
use Rattle.std.proofs.lemmas.Bool.{false≢true, eqb-true, eq-eqb, or_cases, or_left, or_right}
use Rattle.std.proofs.lemmas.List.{length-map}
use Rattle.std.proofs.lemmas.List.Sums.{sum_by-cons, count_by-le-length}
use Rattle.std.proofs.lemmas.Slice.Zip.{length-zip}
use Rattle.project_model.specs.declared.crates.CrateInfo.{CrateInfo}
use Rattle.check_restarts.specs.Affected.{marked_then, round, marks_after_rounds, affected_of}
use Rattle.check_restarts.specs.Among.{is_among}
use Rattle.check_restarts.specs.Dependents.{is_at, is_in, is_marked, names, has_root, picked, IsChain, IsAffected, MarksAffected, AreAffected}
use Rattle.check_restarts.proofs.RowLaws.{iff_same}

-- one of a list passes
passing : (test : ℕ → Bool) (list : List ℕ) → IsTrue (list_any test list) → (n : ℕ) × IsTrue (is_in list n) × IsTrue (test n)
passing test [] h = absurd (false≢true h)
passing test (x ∷ xs) h = ⊎_elim
    (λ a. (x, or_left (nat_eq x x) (is_in xs x) (eq-eqb x x refl), a))
    (λ b. let rest = passing test xs b in (rest.0, or_right (nat_eq x rest.0) (is_in xs rest.0) rest.1, rest.2))
    (or_cases (test x) (list_any test xs) h)

passed : (test : ℕ → Bool) (list : List ℕ) (n : ℕ) → IsTrue (is_in list n) → IsTrue (test n) → IsTrue (list_any test list)
passed test [] n h t = absurd (false≢true h)
passed test (x ∷ xs) n h t = ⊎_elim
    (λ same. or_left (test x) (list_any test xs) (subst (λ (m : ℕ). IsTrue (test m)) (sym (eqb-true x n same)) t))
    (λ later. or_right (test x) (list_any test xs) (passed test xs n later t))
    (or_cases (nat_eq x n) (is_in xs n) h)

-- the crate with a number names a marked one, and which
named : (marks : List Bool) (crates : List CrateInfo) (n : ℕ) → IsTrue (is_at (λ (info : CrateInfo). list_any (is_marked marks) info.deps) crates n)
    → (dep : ℕ) × IsTrue (names crates n dep) × IsTrue (is_marked marks dep)
named marks [] n h = absurd (false≢true h)
named marks (info ∷ rest) zero h = passing (is_marked marks) info.deps h
named marks (info ∷ rest) (suc n) h = named marks rest n h

names_it : (marks : List Bool) (crates : List CrateInfo) (n dep : ℕ) → IsTrue (names crates n dep) → IsTrue (is_marked marks dep)
    → IsTrue (is_at (λ (info : CrateInfo). list_any (is_marked marks) info.deps) crates n)
names_it marks [] n dep h m = absurd (false≢true h)
names_it marks (info ∷ rest) zero dep h m = passed (is_marked marks) info.deps dep h m
names_it marks (info ∷ rest) (suc n) dep h m = names_it marks rest n dep h m

-- The crates and marks here are those from some place on; a round looks up dependencies in all marks.

marked_by : (marks : List Bool) (crates : List CrateInfo) (some : List Bool) (n : ℕ) → IsTrue (is_marked (map (marked_then marks) (zip crates some)) n)
    → IsTrue (is_marked some n) ⊎ IsTrue (is_at (λ (info : CrateInfo). list_any (is_marked marks) info.deps) crates n)
marked_by marks [] some n h = absurd (false≢true h)
marked_by marks (info ∷ rest) [] n h = absurd (false≢true h)
marked_by marks (info ∷ rest) (mark ∷ some) zero h = or_cases mark (list_any (is_marked marks) info.deps) h
marked_by marks (info ∷ rest) (mark ∷ some) (suc n) h = marked_by marks rest some n h

still_marked : (marks : List Bool) (crates : List CrateInfo) (some : List Bool) (n : ℕ) → length some ≡ length crates → IsTrue (is_marked some n)
    → IsTrue (is_marked (map (marked_then marks) (zip crates some)) n)
still_marked marks crates [] n same h = absurd (false≢true h)
still_marked marks [] (mark ∷ some) n same h = absurd (omega (arith, same))
still_marked marks (info ∷ rest) (mark ∷ some) zero same h = or_left mark (list_any (is_marked marks) info.deps) h
still_marked marks (info ∷ rest) (mark ∷ some) (suc n) same h = still_marked marks rest some n (omega (arith, same)) h

now_marked : (marks : List Bool) (crates : List CrateInfo) (some : List Bool) (n : ℕ) → length some ≡ length crates
    → IsTrue (is_at (λ (info : CrateInfo). list_any (is_marked marks) info.deps) crates n) → IsTrue (is_marked (map (marked_then marks) (zip crates some)) n)
now_marked marks [] some n same h = absurd (false≢true h)
now_marked marks (info ∷ rest) [] n same h = absurd (omega (arith, same))
now_marked marks (info ∷ rest) (mark ∷ some) zero same h = or_right mark (list_any (is_marked marks) info.deps) h
now_marked marks (info ∷ rest) (mark ∷ some) (suc n) same h = now_marked marks rest some n (omega (arith, same)) h

count_more : (mark : Bool) (marks : List Bool) → count_by not (mark ∷ marks) ≡ cond (not mark) 1 0 + count_by not marks
count_more mark marks = sum_by-cons (λ (b : Bool). cond (not b) 1 0) mark marks

-- marks that change become more
more_or_same : (marks : List Bool) (crates : List CrateInfo) (some : List Bool) → length some ≡ length crates
    → (map (marked_then marks) (zip crates some) ≡ some) ⊎ (count_by not (map (marked_then marks) (zip crates some)) + 1 ≤ count_by not some)
more_or_same marks [] [] same = inl refl
more_or_same marks [] (mark ∷ some) same = absurd (omega (arith, same))
more_or_same marks (info ∷ rest) [] same = absurd (omega (arith, same))
more_or_same marks (info ∷ rest) (true ∷ some) same =
    let then = map (marked_then marks) (zip rest some) in
    ⊎_elim
    (λ e. inl (ap (λ (l : List Bool). true ∷ l) e))
    (λ less. inr (omega (arith, less, count_more true then, count_more true some)))
    (more_or_same marks rest some (omega (arith, same)))
more_or_same marks (info ∷ rest) (false ∷ some) same =
    let then = map (marked_then marks) (zip rest some) in
    elim (list_any (is_marked marks) info.deps) as (λ b. (b ∷ then ≡ false ∷ some) ⊎ (count_by not (b ∷ then) + 1 ≤ count_by not (false ∷ some))) [
      | true ↦ ⊎_elim
          (λ e. let c = ap (λ (l : List Bool). count_by not l) e in inr (omega (arith, c, count_more true then, count_more false some)))
          (λ less. inr (omega (arith, less, count_more true then, count_more false some)))
          (more_or_same marks rest some (omega (arith, same)))
      | false ↦ ⊎_elim
          (λ e. inl (ap (λ (l : List Bool). false ∷ l) e))
          (λ less. inr (omega (arith, less, count_more false then, count_more false some)))
          (more_or_same marks rest some (omega (arith, same)))
    ]

-- The rounds.

one_more : {A : Type 0} (step : A → A) (n : ℕ) (a : A) → iterate step (suc n) a ≡ step (iterate step n a)
one_more step zero a = refl
one_more step (suc n) a = one_more step n (step a)

length-round : (crates : List CrateInfo) (marks : List Bool) → length marks ≡ length crates → length (round crates marks) ≡ length crates
length-round crates marks same = let a = length-map (zip crates marks) (marked_then marks) in omega (arith, a, length-zip crates marks, same)

length-rounds : (crates : List CrateInfo) (n : ℕ) (first : List Bool) → length first ≡ length crates → length (iterate (round crates) n first) ≡ length crates
length-rounds crates zero first same = same
length-rounds crates (suc n) first same = length-rounds crates n (round crates first) (length-round crates first same)

-- a round changes nothing, or each until now marked one more
rests : (crates : List CrateInfo) (n : ℕ) (first : List Bool) → length first ≡ length crates
    → (round crates (iterate (round crates) n first) ≡ iterate (round crates) n first)
    ⊎ (count_by not (round crates (iterate (round crates) n first)) + n + 1 ≤ count_by not first)
rests crates zero first same = ⊎_elim (λ e. inl e) (λ less. inr (omega (arith, less))) (more_or_same first crates first same)
rests crates (suc n) first same =
    let before = iterate (round crates) n first in
    let step : iterate (round crates) (suc n) first ≡ round crates before = one_more (round crates) n first in
    let all : length (round crates before) ≡ length crates = length-round crates before (length-rounds crates n first same) in
    subst (λ (now : List Bool). (round crates now ≡ now) ⊎ (count_by not (round crates now) + suc n + 1 ≤ count_by not first)) (sym step)
    (⊎_elim
    (λ e. inl (ap (round crates) e))
    (λ less. ⊎_elim
    (λ e. inl e)
    (λ fewer. inr (omega (arith, less, fewer)))
    (more_or_same (round crates before) crates (round crates before) all))
    (rests crates n first same))

-- as many rounds as there are crates are enough
at_rest : (crates : List CrateInfo) (first : List Bool) → length first ≡ length crates
    → round crates (iterate (round crates) (length crates) first) ≡ iterate (round crates) (length crates) first
at_rest crates first same = ⊎_elim
    (λ e. e)
    (λ less. let most = count_by-le-length not first in absurd (omega (arith, less, most, same)))
    (rests crates (length crates) first same)

first_kept : (crates : List CrateInfo) (k : ℕ) (first : List Bool) (n : ℕ) → length first ≡ length crates → IsTrue (is_marked first n)
    → IsTrue (is_marked (iterate (round crates) k first) n)
first_kept crates zero first n same h = h
first_kept crates (suc k) first n same h =
    first_kept crates k (round crates first) n (length-round crates first same) (still_marked first crates first n same h)

-- what is marked is affected
marked_affected : (crates : List CrateInfo) (chosen : ℕ → Bool) (k : ℕ) (first : List Bool)
    → ((n : ℕ) → IsTrue (is_marked first n) → IsAffected (names crates) chosen n)
    → (n : ℕ) → IsTrue (is_marked (iterate (round crates) k first) n) → IsAffected (names crates) chosen n
marked_affected crates chosen zero first begun n h = begun n h
marked_affected crates chosen (suc k) first begun n h =
    let then : (m : ℕ) → IsTrue (is_marked (round crates first) m) → IsAffected (names crates) chosen m =
    λ m marked. ⊎_elim
    (λ was. begun m was)
    (λ new.
    let it = named first crates m new in
    let on = begun it.0 it.2 in
    (it.0 ∷ on.0, (it.1, on.1)))
    (marked_by first crates first m marked) in
    marked_affected crates chosen k (round crates first) then n h

-- what is affected is marked at rest
affected_marked : (crates : List CrateInfo) (chosen : ℕ → Bool) (marks : List Bool) → length marks ≡ length crates → round crates marks ≡ marks
    → ((n : ℕ) → IsTrue (chosen n) → IsTrue (is_marked marks n))
    → (n : ℕ) (chain : List ℕ) → IsChain (names crates) chosen n chain → IsTrue (is_marked marks n)
affected_marked crates chosen marks same rest begun n [] h = begun n h
affected_marked crates chosen marks same rest begun n (next ∷ chain) h =
    let on = affected_marked crates chosen marks same rest begun next chain h.1 in
    subst (λ (l : List Bool). IsTrue (is_marked l n)) rest (now_marked marks crates marks n same (names_it marks crates n next h.0 on))

chosen_marked : (paths roots : List (List ℕ)) (n : ℕ) → is_marked (map (is_among roots) paths) n ≡ has_root paths roots n
chosen_marked [] roots n = refl
chosen_marked (path ∷ paths) roots zero = refl
chosen_marked (path ∷ paths) roots (suc n) = chosen_marked paths roots n

marks_affected : (crates : List CrateInfo) (paths roots : List (List ℕ)) → length paths ≡ length crates
    → MarksAffected (names crates) (has_root paths roots) (marks_after_rounds crates paths roots)
marks_affected crates paths roots same n =
    let first = map (is_among roots) paths in
    let count : length first ≡ length crates = length-map paths (is_among roots) ∙ same in (
      marked_affected crates (has_root paths roots) (length crates) first (λ m h. ([], sym (chosen_marked paths roots m) ∙ h)) n,
      λ a. affected_marked crates (has_root paths roots) (marks_after_rounds crates paths roots) (length-rounds crates (length crates) first count)
          (at_rest crates first count) (λ m h. first_kept crates (length crates) first m count (chosen_marked paths roots m ∙ h)) n a.0 a.1,
    )

-- Marks of the same crates pick the same paths.

none_picked : (marks : List Bool) (paths : List (List ℕ)) → ((n : ℕ) → is_marked marks n ≡ false) → picked marks paths ≡ []
none_picked [] paths none = refl
none_picked (true ∷ marks) paths none = absurd (false≢true (sym (none 0)))
none_picked (false ∷ marks) [] none = refl
none_picked (false ∷ marks) (path ∷ paths) none = none_picked marks paths (λ n. none (suc n))

same_picked : (marks others : List Bool) (paths : List (List ℕ)) → ((n : ℕ) → is_marked marks n ≡ is_marked others n) → picked marks paths ≡ picked others paths
same_picked [] others paths same = sym (none_picked others paths (λ n. sym (same n)))
same_picked (mark ∷ marks) [] paths same = none_picked (mark ∷ marks) paths same
same_picked (mark ∷ marks) (other ∷ others) [] same = refl
same_picked (mark ∷ marks) (other ∷ others) (path ∷ paths) same =
    ap (λ b. cond b (path ∷ picked marks paths) (picked marks paths)) (same 0)
    ∙ ap (λ (l : List (List ℕ)). cond other (path ∷ l) l) (same_picked marks others paths (λ n. same (suc n)))

same_marks : (depends : ℕ → ℕ → Bool) (chosen : ℕ → Bool) (marks others : List Bool) → MarksAffected depends chosen marks → MarksAffected depends chosen others
    → (n : ℕ) → is_marked marks n ≡ is_marked others n
same_marks depends chosen marks others one two n = iff_same (is_marked marks n) (is_marked others n)
    (λ h. (two n).1 ((one n).0 h)) (λ h. (one n).1 ((two n).0 h))

pub affected_is : (crates : List CrateInfo) (paths roots : List (List ℕ)) → length paths ≡ length crates
    → AreAffected crates paths roots (affected_of crates paths roots)
affected_is crates paths roots same = (marks_after_rounds crates paths roots, marks_affected crates paths roots same, refl)

pub affected_only : (crates : List CrateInfo) (paths roots affected : List (List ℕ)) → length paths ≡ length crates
    → AreAffected crates paths roots affected → affected ≡ affected_of crates paths roots
affected_only crates paths roots affected same are =
    are.2 ∙ same_picked are.0 (marks_after_rounds crates paths roots) paths
    (same_marks (names crates) (has_root paths roots) are.0 (marks_after_rounds crates paths roots) are.1 (marks_affected crates paths roots same))
