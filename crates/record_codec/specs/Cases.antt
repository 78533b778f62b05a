-- Enums: the number of the variant, and behind it the variant's fields.
use Rattle.std.specs.Prelude.{◌≡◌, ℕ, suc, ◌≤◌, List, [], ◌∷◌, ◌++◌, Bool, true, false, cond, nat_eq, nat_lt, Option}
use Rattle.std.specs.Prelude.{Some, None, Result, Ok, Err, ◌⊎◌, refl}
use Rattle.std.proofs.Common.{sym, ap, subst, ◌∙◌, arith, inl, inr}
use Rattle.std.proofs.lemmas.Bool.{eqb-true, lt-ltb}
use Rattle.std.proofs.lemmas.Bool.Decides.{nat_tests}
use Rattle.record_codec.specs.Front.{IsBytes, IsBytes-rest, none_is, Splits, Found, here, via, via_some, some_is}
use Rattle.record_codec.specs.Front.{chosen}
use Rattle.record_codec.specs.Codec.{Codec, nothing}

-- the first byte
abbrev pub first_of : List ℕ → Found ℕ
first_of [] = None
first_of (b ∷ bytes) = Some (b, bytes)

-- ---- a byte

pub byte_canonical : (bytes : List ℕ) (n : ℕ) (rest : List ℕ) → IsBytes bytes → first_of bytes ≡ here n rest
    → Splits bytes (n ∷ []) rest × (nat_lt n 256 ≡ true)
byte_canonical [] n rest fits e = absurd (none_is (n, rest) e)
byte_canonical (b ∷ bytes) n rest fits e =
    let small : nat_lt b 256 ≡ true = lt-ltb b 256 (fits 0) in
    subst (λ (y : ℕ × List ℕ). Splits (b ∷ bytes) (y.0 ∷ []) y.1 × (nat_lt y.0 256 ≡ true))
    (some_is (b, bytes) (n, rest) e)
    (record { parts = refl; rest_fits = IsBytes-rest b bytes fits }, small)

abbrev pub byte : Codec ℕ
byte = record {
  spelling = λ n. n ∷ [];
  fits = λ n. nat_lt n 256;
  read = first_of;
  round_trip = λ n rest fits. refl;
  canonical = byte_canonical;
}

-- The variants of an enum, of which the first has the number k.
pub record Cases (A : Type 0) : Type 0 where
  pub number : ℕ → A → ℕ
  pub body : A → List ℕ
  pub fits : A → Bool
  -- what is read behind a number
  pub read : ℕ → ℕ → List ℕ → Found A
  pub above : (k : ℕ) (x : A) → k ≤ number k x
  pub round_trip : (k : ℕ) (x : A) (rest : List ℕ) → fits x ≡ true
      → read k (number k x) (body x ++ rest) ≡ Some (x, rest)
  pub canonical : (k t : ℕ) (bytes : List ℕ) (x : A) (rest : List ℕ) → IsBytes bytes → read k t bytes ≡ Some (x, rest)
      → (number k x ≡ t) × (Splits bytes (body x) rest × (fits x ≡ true))

pub le_self : (k : ℕ) → k ≤ k
le_self k = omega arith

eqb_same : (n : ℕ) → nat_eq n n ≡ true
eqb_same n = grind (arith, nat_tests)

eqb_above : (k n : ℕ) → suc k ≤ n → nat_eq n k ≡ false
eqb_above k n h = grind (arith, nat_tests)

-- ---- the last variant

module _ {A : Type 0} (c : Codec A) where
  pub last_round_trip : (k : ℕ) (x : A) (rest : List ℕ) → c.fits x ≡ true
      → cond (nat_eq k k) (c.read (c.spelling x ++ rest)) None ≡ Some (x, rest)
  last_round_trip k x rest fits = rw (eqb_same k) (c.round_trip x rest fits)

  pub last_canonical : (k t : ℕ) (bytes : List ℕ) (x : A) (rest : List ℕ) → IsBytes bytes
      → cond (nat_eq t k) (c.read bytes) None ≡ Some (x, rest) → (k ≡ t)
      × (Splits bytes (c.spelling x) rest × (c.fits x ≡ true))
  last_canonical k t bytes x rest fits e =
      elim (chosen (nat_eq t k) (c.read bytes) None (x, rest) e) [
        | inl p ↦ (sym (eqb-true t k p.0), c.canonical bytes x rest fits p.1)
        | inr p ↦ absurd (none_is (x, rest) p.1)
      ]

  abbrev pub last : Cases A
  last = record {
    number = λ k x. k;
    body = c.spelling;
    fits = c.fits;
    read = λ k t bytes. cond (nat_eq t k) (c.read bytes) None;
    above = λ k x. le_self k;
    round_trip = last_round_trip;
    canonical = last_canonical;
  }

-- ---- a variant before others

module _ {A B : Type 0} (c : Codec A) (ds : Cases B) where
  abbrev pub or_number : ℕ → A ⊎ B → ℕ
  or_number k (inl x) = k
  or_number k (inr y) = ds.number (suc k) y

  abbrev pub or_body : A ⊎ B → List ℕ
  or_body (inl x) = c.spelling x
  or_body (inr y) = ds.body y

  abbrev pub or_fits : A ⊎ B → Bool
  or_fits (inl x) = c.fits x
  or_fits (inr y) = ds.fits y

  abbrev pub or_read : ℕ → ℕ → List ℕ → Found (A ⊎ B)
  or_read k t bytes = cond (nat_eq t k) (via inl (c.read bytes)) (via inr (ds.read (suc k) t bytes))

  pub or_above : (k : ℕ) (x : A ⊎ B) → k ≤ or_number k x
  or_above k (inl x) = le_self k
  or_above k (inr y) = omega (arith, ds.above (suc k) y)

  pub or_round_trip : (k : ℕ) (x : A ⊎ B) (rest : List ℕ) → or_fits x ≡ true
      → or_read k (or_number k x) (or_body x ++ rest) ≡ Some (x, rest)
  or_round_trip k (inl x) rest fits = rw (eqb_same k) (ap (via inl) (c.round_trip x rest fits))
  or_round_trip k (inr y) rest fits = rw (eqb_above k (ds.number (suc k) y) (ds.above (suc k) y))
      (ap (via inr) (ds.round_trip (suc k) y rest fits))

  pub or_canonical : (k t : ℕ) (bytes : List ℕ) (x : A ⊎ B) (rest : List ℕ) → IsBytes bytes
      → or_read k t bytes ≡ Some (x, rest) → (or_number k x ≡ t) × (Splits bytes (or_body x) rest × (or_fits x ≡ true))
  or_canonical k t bytes x rest fits e =
      elim (chosen (nat_eq t k) (via inl (c.read bytes)) (via inr (ds.read (suc k) t bytes)) (x, rest) e) [
        | inl p ↦
            let a = via_some inl (c.read bytes) (x, rest) p.1 in
            subst (λ (y : (A ⊎ B) × List ℕ). (or_number k y.0 ≡ t)
            × (Splits bytes (or_body y.0) y.1 × (or_fits y.0 ≡ true))) a.1.1
            (sym (eqb-true t k p.0), c.canonical bytes a.0.0 a.0.1 fits a.1.0)
        | inr p ↦
            let a = via_some inr (ds.read (suc k) t bytes) (x, rest) p.1 in
            subst (λ (y : (A ⊎ B) × List ℕ). (or_number k y.0 ≡ t)
            × (Splits bytes (or_body y.0) y.1 × (or_fits y.0 ≡ true))) a.1.1
            (ds.canonical (suc k) t bytes a.0.0 a.0.1 fits a.1.0)
      ]

infixr 1 ◌or◌
abbrev pub ◌or◌ : {A B : Type 0} → Codec A → Cases B → Cases (A ⊎ B)
c or ds = record {
  number = or_number c ds;
  body = or_body c ds;
  fits = or_fits c ds;
  read = or_read c ds;
  above = or_above c ds;
  round_trip = or_round_trip c ds;
  canonical = or_canonical c ds;
}

-- ---- the enum

module _ {A B : Type 0} (parts : A → B) (whole : B → A) (made : (x : A) → whole (parts x) ≡ x)
    (unmade : (y : B) → parts (whole y) ≡ y) (cs : Cases B) where
  abbrev pub read_case : List ℕ → Found A
  read_case [] = None
  read_case (t ∷ bytes) = via whole (cs.read 0 t bytes)

  pub case_round_trip : (x : A) (rest : List ℕ) → cs.fits (parts x) ≡ true
      → via whole (cs.read 0 (cs.number 0 (parts x)) (cs.body (parts x) ++ rest)) ≡ Some (x, rest)
  case_round_trip x rest fits = ap (via whole) (cs.round_trip 0 (parts x) rest fits)
      ∙ ap (λ (y : A). Some (y, rest)) (made x)

  pub case_canonical : (bytes : List ℕ) (x : A) (rest : List ℕ) → IsBytes bytes → read_case bytes ≡ Some (x, rest)
      → Splits bytes (cs.number 0 (parts x) ∷ cs.body (parts x)) rest × (cs.fits (parts x) ≡ true)
  case_canonical [] x rest fits e = absurd (none_is (x, rest) e)
  case_canonical (t ∷ bytes) x rest fits e =
      let a = via_some whole (cs.read 0 t bytes) (x, rest) e in
      let taken = cs.canonical 0 t bytes a.0.0 a.0.1 (IsBytes-rest t bytes fits) a.1.0 in
      let front : Splits (t ∷ bytes) (cs.number 0 a.0.0 ∷ cs.body a.0.0) a.0.1 = record {
        parts = rw taken.0 (ap (λ (y : List ℕ). t ∷ y) taken.1.0.parts);
        rest_fits = taken.1.0.rest_fits;
      } in
      let named = subst (λ (y : B). Splits (t ∷ bytes) (cs.number 0 y ∷ cs.body y) a.0.1 × (cs.fits y ≡ true))
      (sym (unmade a.0.0)) (front, taken.1.1) in
      subst (λ (y : A × List ℕ). Splits (t ∷ bytes) (cs.number 0 (parts y.0) ∷ cs.body (parts y.0)) y.1
      × (cs.fits (parts y.0) ≡ true)) a.1.1 named

  abbrev pub by_cases : Codec A
  by_cases = record {
    spelling = λ x. cs.number 0 (parts x) ∷ cs.body (parts x);
    fits = λ x. cs.fits (parts x);
    read = read_case;
    round_trip = case_round_trip;
    canonical = case_canonical;
  }

-- ---- truths, options and results

abbrev pub Two : Type 0 → Type 0 → Type 0
Two A B = A ⊎ B

abbrev pub truth_parts : Bool → Two (Unit {0}) (Unit {0})
truth_parts false = inl tt
truth_parts true = inr tt

abbrev pub truth_of : Two (Unit {0}) (Unit {0}) → Bool
truth_of (inl x) = false
truth_of (inr x) = true

pub truth_made : (x : Bool) → truth_of (truth_parts x) ≡ x
truth_made false = refl
truth_made true = refl

pub truth_unmade : (y : Two (Unit {0}) (Unit {0})) → truth_parts (truth_of y) ≡ y
truth_unmade (inl x) = refl
truth_unmade (inr x) = refl

unfoldable pub truth : Codec Bool
truth = by_cases truth_parts truth_of truth_made truth_unmade (nothing or last nothing)

module _ {A : Type 0} where
  abbrev pub option_parts : Option A → Two (Unit {0}) A
  option_parts None = inl tt
  option_parts (Some x) = inr x

  abbrev pub option_of : Two (Unit {0}) A → Option A
  option_of (inl x) = None
  option_of (inr x) = Some x

  pub option_made : (x : Option A) → option_of (option_parts x) ≡ x
  option_made None = refl
  option_made (Some x) = refl

  pub option_unmade : (y : Two (Unit {0}) A) → option_parts (option_of y) ≡ y
  option_unmade (inl x) = refl
  option_unmade (inr x) = refl

  unfoldable pub optional : Codec A → Codec (Option A)
  optional c = by_cases option_parts option_of option_made option_unmade (nothing or last c)

module _ {A E : Type 0} where
  abbrev pub result_parts : Result A E → Two A E
  result_parts (Ok x) = inl x
  result_parts (Err e) = inr e

  abbrev pub result_of : Two A E → Result A E
  result_of (inl x) = Ok x
  result_of (inr e) = Err e

  pub result_made : (x : Result A E) → result_of (result_parts x) ≡ x
  result_made (Ok x) = refl
  result_made (Err e) = refl

  pub result_unmade : (y : Two A E) → result_parts (result_of y) ≡ y
  result_unmade (inl x) = refl
  result_unmade (inr e) = refl

  unfoldable pub outcome : Codec A → Codec E → Codec (Result A E)
  outcome c d = by_cases result_parts result_of result_made result_unmade (c or last d)
