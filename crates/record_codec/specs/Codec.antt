-- How the values of a type are spelled as bytes, and read at the front of bytes.
use Rattle.std.specs.Prelude.{◌≡◌, ℕ, List, [], ◌++◌, Bool, true, ◌&&◌, cond, Some, None, refl}
use Rattle.std.proofs.Common.{sym, ap, subst, ◌∙◌, append_assoc}
use Rattle.record_codec.specs.Front.{IsBytes, Splits, Splits-then, Found, here, then_read, then_some, via, via_some}
use Rattle.record_codec.specs.Front.{some_is, and_left, and_right, and_both, met}

pub record Codec (A : Type 0) : Type 0 where
  -- the bytes of a value
  pub spelling : A → List ℕ
  -- whether a value has a spelling
  pub fits : A → Bool
  -- the value at the front of bytes, and what is left of them
  pub read : List ℕ → Found A
  -- what is spelled is read, whatever follows it
  pub round_trip : (x : A) (rest : List ℕ) → fits x ≡ true → read (spelling x ++ rest) ≡ Some (x, rest)
  -- what is read is spelled so
  pub canonical : (bytes : List ℕ) (x : A) (rest : List ℕ) → IsBytes bytes → read bytes ≡ Some (x, rest)
      → Splits bytes (spelling x) rest × (fits x ≡ true)

-- ---- two values, one behind the other

module _ {A B : Type 0} (c : Codec A) (d : Codec B) where
  abbrev pub read_both : List ℕ → Found (A × B)
  read_both bytes = then_read (c.read bytes) (λ x rest. via (λ y. (x, y)) (d.read rest))

  pub both_round_trip : (x : A × B) (rest : List ℕ) → (c.fits x.0 && d.fits x.1) ≡ true
      → read_both ((c.spelling x.0 ++ d.spelling x.1) ++ rest) ≡ Some (x, rest)
  both_round_trip x rest fits =
      let first = c.round_trip x.0 (d.spelling x.1 ++ rest) (and_left _ _ fits) in
      let second = d.round_trip x.1 rest (and_right _ _ fits) in
      ap read_both (append_assoc (c.spelling x.0) (d.spelling x.1) rest) ∙ rw (first, second) refl

  pub both_canonical : (bytes : List ℕ) (x : A × B) (rest : List ℕ) → IsBytes bytes → read_both bytes ≡ Some (x, rest)
      → Splits bytes (c.spelling x.0 ++ d.spelling x.1) rest × ((c.fits x.0 && d.fits x.1) ≡ true)
  both_canonical bytes x rest fits e =
      let a = then_some (c.read bytes) (λ x rest. via (λ y. (x, y)) (d.read rest)) (x, rest) e in
      let b = via_some (λ y. (a.0.0, y)) (d.read a.0.1) (x, rest) a.1.1 in
      let first = c.canonical bytes a.0.0 a.0.1 fits a.1.0 in
      let second = d.canonical a.0.1 b.0.0 b.0.1 first.0.rest_fits b.1.0 in
      subst (λ (y : (A × B) × List ℕ). Splits bytes (c.spelling y.0.0 ++ d.spelling y.0.1) y.1
      × ((c.fits y.0.0 && d.fits y.0.1) ≡ true)) b.1.1 (
        Splits-then bytes (c.spelling a.0.0) a.0.1 (d.spelling b.0.0) b.0.1 first.0 second.0,
        and_both _ _ first.1 second.1,
      )

infixr 2 ◌and◌
abbrev pub ◌and◌ : {A B : Type 0} → Codec A → Codec B → Codec (A × B)
c and d = record {
  spelling = λ x. c.spelling x.0 ++ d.spelling x.1;
  fits = λ x. c.fits x.0 && d.fits x.1;
  read = read_both c d;
  round_trip = both_round_trip c d;
  canonical = both_canonical c d;
}

-- ---- a value by its parts

module _ {A B : Type 0} (parts : A → B) (whole : B → A) (made : (x : A) → whole (parts x) ≡ x)
    (unmade : (y : B) → parts (whole y) ≡ y) (c : Codec B) where
  pub parts_round_trip : (x : A) (rest : List ℕ) → c.fits (parts x) ≡ true
      → via whole (c.read (c.spelling (parts x) ++ rest)) ≡ Some (x, rest)
  parts_round_trip x rest fits = ap (via whole) (c.round_trip (parts x) rest fits)
      ∙ ap (λ (y : A). Some (y, rest)) (made x)

  pub parts_canonical : (bytes : List ℕ) (x : A) (rest : List ℕ) → IsBytes bytes
      → via whole (c.read bytes) ≡ Some (x, rest) → Splits bytes (c.spelling (parts x)) rest × (c.fits (parts x) ≡ true)
  parts_canonical bytes x rest fits e =
      let a = via_some whole (c.read bytes) (x, rest) e in
      let taken = c.canonical bytes a.0.0 a.0.1 fits a.1.0 in
      let named = subst (λ (y : B). Splits bytes (c.spelling y) a.0.1 × (c.fits y ≡ true)) (sym (unmade a.0.0)) taken in
      subst (λ (y : A × List ℕ). Splits bytes (c.spelling (parts y.0)) y.1 × (c.fits (parts y.0) ≡ true)) a.1.1 named

  abbrev pub by_parts : Codec A
  by_parts = record {
    spelling = λ x. c.spelling (parts x);
    fits = λ x. c.fits (parts x);
    read = λ bytes. via whole (c.read bytes);
    round_trip = parts_round_trip;
    canonical = parts_canonical;
  }

-- ---- only the values that pass a test

abbrev pub if_passing : {A : Type 0} → (A → Bool) → Found A → Found A
if_passing passes None = None
if_passing passes (Some x) = cond (passes x.0) (Some x) None

passing_some : {A : Type 0} (passes : A → Bool) (r : Found A) (y : A × List ℕ) → if_passing passes r ≡ Some y
    → (r ≡ Some y) × (passes y.0 ≡ true)
passing_some passes None y e = absurd cc
passing_some passes (Some x) y e =
    let m = met (passes x.0) x y e in
    (ap Some m.1, subst (λ (z : _). passes z.0 ≡ true) m.1 m.0)

module _ {A : Type 0} (passes : A → Bool) (c : Codec A) where
  pub passing_round_trip : (x : A) (rest : List ℕ) → (c.fits x && passes x) ≡ true
      → if_passing passes (c.read (c.spelling x ++ rest)) ≡ Some (x, rest)
  passing_round_trip x rest fits =
      ap (if_passing passes) (c.round_trip x rest (and_left _ _ fits)) ∙ rw (and_right (c.fits x) (passes x) fits) refl

  pub passing_canonical : (bytes : List ℕ) (x : A) (rest : List ℕ) → IsBytes bytes
      → if_passing passes (c.read bytes) ≡ Some (x, rest) → Splits bytes (c.spelling x) rest
      × ((c.fits x && passes x) ≡ true)
  passing_canonical bytes x rest fits e =
      let p = passing_some passes (c.read bytes) (x, rest) e in
      let taken = c.canonical bytes x rest fits p.0 in
      (taken.0, and_both _ _ taken.1 p.1)

  abbrev pub passing : Codec A
  passing = record {
    spelling = c.spelling;
    fits = λ x. c.fits x && passes x;
    read = λ bytes. if_passing passes (c.read bytes);
    round_trip = passing_round_trip;
    canonical = passing_canonical;
  }

-- ---- a variant without fields

pub nothing_canonical : (bytes : List ℕ) (x : Unit {0}) (rest : List ℕ) → IsBytes bytes → here tt bytes ≡ here x rest
    → Splits bytes [] rest × (true ≡ true)
nothing_canonical bytes x rest fits e =
    let same : bytes ≡ rest = ap (λ (y : Unit {0} × List ℕ). y.1) (some_is (tt, bytes) (x, rest) e) in
    (record { parts = same; rest_fits = subst IsBytes same fits }, refl)

abbrev pub nothing : Codec (Unit {0})
nothing = record {
  spelling = λ x. [];
  fits = λ x. true;
  read = λ bytes. here tt bytes;
  round_trip = λ x rest fits. refl;
  canonical = nothing_canonical;
}
