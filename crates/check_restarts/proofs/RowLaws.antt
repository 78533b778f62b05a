-- The rows of crates hold what depends on each.
use Rattle.std.proofs.Common.{◌≡◌, ◌⊎◌, inl, inr, ⊎_elim, ℕ, zero, suc, ◌+◌, ◌<◌, ◌≤◌, Bool, true, false, cond, List, [], ◌∷◌, ◌++◌, length, take, get_or, append-nil, refl, sym, ap, subst, ◌∙◌, arith}
use Rattle.std.specs.Prelude.{IsTrue, replicate}
use Rattle.std.proofs.Math.ListN.{set}
use Rattle.std.proofs.lemmas.Bool.{false≢true, cases_eq}
use Rattle.std.proofs.lemmas.List.{take_more, length-take-le, length-replicate, length-set, get_or-set_same, get_or-set_other}
use Rattle.project_model.specs.declared.crates.CrateInfo.{CrateInfo}
use Rattle.check_restarts.specs.Among.{is_among}
use Rattle.check_restarts.specs.Dependents.{is_at, is_in, names, has_root, IsChain, MarksAffected}
use Rattle.check_restarts.specs.Walk.{row_at, is_within, depends_by, Added, AreRows}
use Rattle.check_restarts.proofs.WalkLaws.{in_either, in_front, in_back, is_one, one_is_in, within_parts, within}

pub added_none : (rows : List (List ℕ)) (number : ℕ) → Added rows [] number rows
added_none rows number = record {
  size = refl;
  kept = λ other dep h. h;
  added = λ dep h below. absurd (false≢true h);
  only = λ other dep h. inl h;
}

-- a dependency that is no crate has no row
pub added_past : (rows : List (List ℕ)) (d number : ℕ) → length rows ≤ d → Added rows (d ∷ []) number rows
added_past rows d number past = record {
  size = refl;
  kept = λ other dep h. h;
  added = λ dep h below. let same : d ≡ dep = is_one d dep h in absurd (omega arith);
  only = λ other dep h. inl h;
}

longer : List (List ℕ) → ℕ → ℕ → List (List ℕ)
longer rows d number = set rows d (row_at rows d ++ number ∷ [])

row_here : (rows : List (List ℕ)) (d number dep : ℕ) → d < length rows → d ≡ dep
    → row_at (set rows d (row_at rows d ++ number ∷ [])) dep ≡ row_at rows dep ++ number ∷ []
row_here rows d number dep below same =
    subst (λ (k : ℕ). row_at (set rows d (row_at rows d ++ number ∷ [])) k ≡ row_at rows k ++ number ∷ []) same
    (get_or-set_same rows d (row_at rows d ++ number ∷ []) [] below)

row_there : (rows : List (List ℕ)) (d dep : ℕ) (row : List ℕ) → (dep ≡ d → ⊥) → row_at (set rows d row) dep ≡ row_at rows dep
row_there rows d dep row other = get_or-set_other rows d dep row [] other

pub added_one : (rows : List (List ℕ)) (d number : ℕ) → d < length rows → Added rows (d ∷ []) number (set rows d (row_at rows d ++ number ∷ []))
added_one rows d number below = record {
  size = length-set rows d (row_at rows d ++ number ∷ []);
  kept = λ other dep h. ⊎_elim
      (λ same. ap (λ (l : List ℕ). is_in l other) (row_here rows d number dep below (sym same)) ∙ in_front (row_at rows dep) (number ∷ []) other h)
      (λ apart. ap (λ (l : List ℕ). is_in l other) (row_there rows d dep (row_at rows d ++ number ∷ []) apart) ∙ h)
      (cases_eq dep d);
  added = λ dep h under.
      ap (λ (l : List ℕ). is_in l number) (row_here rows d number dep below (is_one d dep h))
      ∙ in_back (row_at rows dep) (number ∷ []) number (one_is_in number number refl);
  only = λ other dep h. ⊎_elim
      (λ same. ⊎_elim
      (λ a. inl a)
      (λ b. inr (sym (is_one number other b), one_is_in d dep (sym same)))
      (in_either (row_at rows dep) (number ∷ []) other (ap (λ (l : List ℕ). is_in l other) (sym (row_here rows d number dep below (sym same))) ∙ h)))
      (λ apart. inl (ap (λ (l : List ℕ). is_in l other) (sym (row_there rows d dep (row_at rows d ++ number ∷ []) apart)) ∙ h))
      (cases_eq dep d);
}

pub added_more : (old : List (List ℕ)) (deps : List ℕ) (d number : ℕ) (mid new : List (List ℕ))
    → Added old deps number mid → Added mid (d ∷ []) number new → Added old (deps ++ d ∷ []) number new
added_more old deps d number mid new one two = record {
  size = two.size ∙ one.size;
  kept = λ other dep h. two.kept other dep (one.kept other dep h);
  added = λ dep h below. ⊎_elim
      (λ a. two.kept number dep (one.added dep a below))
      (λ b. two.added dep b (subst (λ (k : ℕ). dep < k) (sym one.size) below))
      (in_either deps (d ∷ []) dep h);
  only = λ other dep h. ⊎_elim
      (λ a. ⊎_elim (λ was. inl was) (λ more. inr (more.0, in_front deps (d ∷ []) dep more.1)) (one.only other dep a))
      (λ more. inr (more.0, in_back deps (d ∷ []) dep more.1))
      (two.only other dep h);
}

-- what is at a number of a list with one more item
pub at_either : {X : Type 0} (test : X → Bool) (xs : List X) (x : X) (n : ℕ) → IsTrue (is_at test (xs ++ x ∷ []) n)
    → IsTrue (is_at test xs n) ⊎ ((n ≡ length xs) × IsTrue (test x))
at_either test [] x zero h = inr (refl, h)
at_either test [] x (suc n) h = absurd (false≢true h)
at_either test (y ∷ ys) x zero h = inl h
at_either test (y ∷ ys) x (suc n) h = ⊎_elim (λ a. inl a) (λ b. inr (ap suc b.0, b.1)) (at_either test ys x n h)

pub at_front : {X : Type 0} (test : X → Bool) (xs : List X) (x : X) (n : ℕ) → IsTrue (is_at test xs n) → IsTrue (is_at test (xs ++ x ∷ []) n)
at_front test [] x n h = absurd (false≢true h)
at_front test (y ∷ ys) x zero h = h
at_front test (y ∷ ys) x (suc n) h = at_front test ys x n h

pub at_back : {X : Type 0} (test : X → Bool) (xs : List X) (x : X) → IsTrue (test x) → IsTrue (is_at test (xs ++ x ∷ []) (length xs))
at_back test [] x h = h
at_back test (y ∷ ys) x h = at_back test ys x h

pub at_below : {X : Type 0} (test : X → Bool) (xs : List X) (n : ℕ) → IsTrue (is_at test xs n) → n < length xs
at_below test [] n h = absurd (false≢true h)
at_below test (y ∷ ys) zero h = omega arith
at_below test (y ∷ ys) (suc n) h = let rest = at_below test ys n h in omega (arith, rest)

none_in : (size dep : ℕ) → row_at (replicate size []) dep ≡ []
none_in zero dep = refl
none_in (suc size) zero = refl
none_in (suc size) (suc dep) = none_in size dep

-- rows without anything are those of no crates
pub rows_begun : (size : ℕ) (rows : List (List ℕ)) → rows ≡ replicate size [] → AreRows size [] rows
rows_begun size rows is = record {
  size_is = ap length is ∙ length-replicate size [];
  named = λ number dep h below. absurd (false≢true h);
  only = λ number dep h.
      let empty : row_at rows dep ≡ [] = ap (λ (l : List (List ℕ)). row_at l dep) is ∙ none_in size dep in
      absurd (false≢true (ap (λ (l : List ℕ). is_in l number) (sym empty) ∙ h));
}

pub rows_more : (size : ℕ) (crates : List CrateInfo) (info : CrateInfo) (rows new : List (List ℕ))
    → AreRows size crates rows → Added rows info.deps (length crates) new → AreRows size (crates ++ info ∷ []) new
rows_more size crates info rows new are step = record {
  size_is = step.size ∙ are.size_is;
  named = λ number dep h below. ⊎_elim
      (λ a. step.kept number dep (are.named number dep a below))
      (λ b. subst (λ (k : ℕ). IsTrue (is_in (row_at new dep) k)) (sym b.0) (step.added dep b.1 (subst (λ (k : ℕ). dep < k) (sym are.size_is) below)))
      (at_either (λ (i : CrateInfo). is_in i.deps dep) crates info number h);
  only = λ number dep h. ⊎_elim
      (λ a. at_front (λ (i : CrateInfo). is_in i.deps dep) crates info number (are.only number dep a))
      (λ b. subst (λ (k : ℕ). IsTrue (names (crates ++ info ∷ []) k dep)) (sym b.0) (at_back (λ (i : CrateInfo). is_in i.deps dep) crates info b.1))
      (step.only number dep h);
}

-- the crate after the first ones
pub rows_next : (size : ℕ) (crates : List CrateInfo) (n : ℕ) (info : CrateInfo) (deps : List ℕ) (rows new : List (List ℕ))
    → n < length crates → info ≡ get_or crates n info → deps ≡ info.deps → AreRows size (take n crates) rows → Added rows deps n new
    → AreRows size (take (n + 1) crates) new
rows_next size crates n info deps rows new below is same are step =
    let count : length (take n crates) ≡ n = length-take-le n crates (omega arith) in
    let first : Added rows info.deps n new = subst (λ (l : List ℕ). Added rows l n new) same step in
    let next : Added rows info.deps (length (take n crates)) new = subst (λ (k : ℕ). Added rows info.deps k new) (sym count) first in
    let parts : take (n + 1) crates ≡ take n crates ++ info ∷ [] =
    take_more crates n info below ∙ ap (λ (i : CrateInfo). take n crates ++ i ∷ []) (sym is) in
    subst (λ (l : List CrateInfo). AreRows size l new) (sym parts) (rows_more size (take n crates) info rows new are next)

-- from the rows back to the crates
to_crates : (crates : List CrateInfo) (paths roots : List (List ℕ)) (rows : List (List ℕ)) (starts : List ℕ) → AreRows (length crates) crates rows
    → ((n : ℕ) → is_in starts n ≡ has_root paths roots n) → (n : ℕ) (chain : List ℕ)
    → IsChain (depends_by rows) (is_within (length rows) starts) n chain → IsChain (names crates) (has_root paths roots) n chain
to_crates crates paths roots rows starts are begun n [] h = sym (begun n) ∙ (within_parts (length rows) starts n h).0
to_crates crates paths roots rows starts are begun n (next ∷ rest) h =
    (are.only n next (within_parts (length rows) (row_at rows next) n h.0).0, to_crates crates paths roots rows starts are begun next rest h.1)

-- a chain begins at a crate that there is
chain_below : (crates : List CrateInfo) (paths roots : List (List ℕ)) → length paths ≡ length crates → (n : ℕ) (chain : List ℕ)
    → IsChain (names crates) (has_root paths roots) n chain → n < length crates
chain_below crates paths roots same n [] h = subst (λ (k : ℕ). n < k) same (at_below (is_among roots) paths n h)
chain_below crates paths roots same n (next ∷ rest) h = at_below (λ (i : CrateInfo). is_in i.deps next) crates n h.0

to_rows : (crates : List CrateInfo) (paths roots : List (List ℕ)) (rows : List (List ℕ)) (starts : List ℕ) → AreRows (length crates) crates rows
    → ((n : ℕ) → is_in starts n ≡ has_root paths roots n) → length paths ≡ length crates → (n : ℕ) (chain : List ℕ)
    → IsChain (names crates) (has_root paths roots) n chain → IsChain (depends_by rows) (is_within (length rows) starts) n chain
to_rows crates paths roots rows starts are begun same n [] h =
    let below : n < length rows = subst (λ (k : ℕ). n < k) (sym are.size_is) (chain_below crates paths roots same n [] h) in
    within (length rows) starts n (begun n ∙ h) below
to_rows crates paths roots rows starts are begun same n (next ∷ rest) h =
    let below : n < length rows = subst (λ (k : ℕ). n < k) (sym are.size_is) (chain_below crates paths roots same n (next ∷ rest) h) in (
      within (length rows) (row_at rows next) n (are.named n next h.0 (chain_below crates paths roots same next rest h.1)) below,
      to_rows crates paths roots rows starts are begun same next rest h.1,
    )

-- what the rows affect is what the crates affect
pub same_affected : (crates : List CrateInfo) (paths roots : List (List ℕ)) (rows : List (List ℕ)) (starts : List ℕ) (marks : List Bool)
    → AreRows (length crates) crates rows → ((n : ℕ) → is_in starts n ≡ has_root paths roots n) → length paths ≡ length crates
    → MarksAffected (depends_by rows) (is_within (length rows) starts) marks → MarksAffected (names crates) (has_root paths roots) marks
same_affected crates paths roots rows starts marks are begun same marked n = (
  λ h. let a = (marked n).0 h in (a.0, to_crates crates paths roots rows starts are begun n a.0 a.1),
  λ a. (marked n).1 (a.0, to_rows crates paths roots rows starts are begun same n a.0 a.1),
)

-- the numbers of the first items that pass
pub found_none : {X : Type 0} (test : X → Bool) (n : ℕ) → is_in [] n ≡ is_at test [] n
found_none test n = refl

pub iff_same : (a b : Bool) → (IsTrue a → IsTrue b) → (IsTrue b → IsTrue a) → a ≡ b
iff_same true true to from = refl
iff_same true false to from = sym (to refl)
iff_same false true to from = from refl
iff_same false false to from = refl

-- one more item, which passes
pub found_more : {X : Type 0} (test : X → Bool) (xs : List X) (x : X) (list : List ℕ) → ((n : ℕ) → is_in list n ≡ is_at test xs n) → IsTrue (test x)
    → (n : ℕ) → is_in (list ++ length xs ∷ []) n ≡ is_at test (xs ++ x ∷ []) n
found_more test xs x list found passes n = iff_same _ _
    (λ h. ⊎_elim
    (λ a. at_front test xs x n (sym (found n) ∙ a))
    (λ b. subst (λ (k : ℕ). IsTrue (is_at test (xs ++ x ∷ []) k)) (is_one (length xs) n b) (at_back test xs x passes))
    (in_either list (length xs ∷ []) n h))
    (λ h. ⊎_elim
    (λ a. in_front list (length xs ∷ []) n (found n ∙ a))
    (λ b. in_back list (length xs ∷ []) n (one_is_in (length xs) n (sym b.0)))
    (at_either test xs x n h))

-- one more, which doesn't
pub found_same : {X : Type 0} (test : X → Bool) (xs : List X) (x : X) (list : List ℕ) → ((n : ℕ) → is_in list n ≡ is_at test xs n) → test x ≡ false
    → (n : ℕ) → is_in list n ≡ is_at test (xs ++ x ∷ []) n
found_same test xs x list found fails n = iff_same _ _
    (λ h. at_front test xs x n (sym (found n) ∙ h))
    (λ h. ⊎_elim (λ a. found n ∙ a) (λ b. absurd (false≢true (sym fails ∙ b.1))) (at_either test xs x n h))

-- one more of a list
pub found_next : {X : Type 0} (test : X → Bool) (xs : List X) (k : ℕ) (x : X) (holds : Bool) (list new : List ℕ) → k < length xs → x ≡ get_or xs k x
    → holds ≡ test x → ((n : ℕ) → is_in list n ≡ is_at test (take k xs) n) → new ≡ list ++ cond holds (k ∷ []) []
    → (n : ℕ) → is_in new n ≡ is_at test (take (k + 1) xs) n
found_next {X} test xs k x holds list new below is same found more =
    let count : length (take k xs) ≡ k = length-take-le k xs (omega arith) in
    let parts : take (k + 1) xs ≡ take k xs ++ x ∷ [] = take_more xs k x below ∙ ap (λ (i : X). take k xs ++ i ∷ []) (sym is) in
    let P : List X → Type 0 = λ l. (n : ℕ) → is_in new n ≡ is_at test l n in
    subst P (sym parts) (
    elim holds as (λ b. b ≡ test x → new ≡ list ++ cond b (k ∷ []) [] → P (take k xs ++ x ∷ [])) [
      | true ↦ λ e m n. ap (λ (l : List ℕ). is_in l n) (m ∙ ap (λ (j : ℕ). list ++ j ∷ []) (sym count)) ∙ found_more test (take k xs) x list found (sym e) n
      | false ↦ λ e m n. ap (λ (l : List ℕ). is_in l n) (m ∙ append-nil list) ∙ found_same test (take k xs) x list found (sym e) n
    ] same more
    )
