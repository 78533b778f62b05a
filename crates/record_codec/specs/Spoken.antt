-- A value behind a text of its own, as JSON behind its compact form.
use Rattle.std.specs.Prelude.{◌≡◌, ℕ, List, ◌++◌, Bool, true, false, ◌&&◌, cond, nat_eq, Option, Some, None, Decides}
use Rattle.std.specs.Prelude.{refl}
use Rattle.std.specs.Cmp.Lexicographic.{pointwise, bytes_decides}
use Rattle.std.proofs.Common.{sym, ap, subst, ◌∙◌}
use Rattle.record_codec.specs.Front.{IsBytes, Splits, Found, here, then_read, then_some, met, none_is, and_left}
use Rattle.record_codec.specs.Front.{and_right, and_both}
use Rattle.record_codec.specs.Codec.{Codec}
use Rattle.record_codec.specs.Numbers.{counted}

-- The text of a value, the value of a text, which values may be written, and a test of equality that decides it.
module _ {A : Type 0} (text_of : A → List ℕ) (value_of : List ℕ → Option A) (passes : A → Bool) (is_same : A → A → Bool)
    (tells : (x y : A) → Decides (is_same x y) (x ≡ y)) where
  abbrev pub is_this : A → Option A → Bool
  is_this x None = false
  is_this x (Some y) = is_same y x

  -- its text reads as the value
  abbrev pub reads_back : A → Bool
  reads_back x = is_this x (value_of (text_of x))

  -- a value that may be written, and whose own text this is
  abbrev pub checked : List ℕ → List ℕ → Option A → Found A
  checked text rest None = None
  checked text rest (Some x) = cond (passes x && pointwise nat_eq (text_of x) text) (here x rest) None

  abbrev pub own_value : List ℕ → List ℕ → Found A
  own_value text rest = checked text rest (value_of text)

  abbrev pub read_spoken : List ℕ → Found A
  read_spoken bytes = then_read (counted.read bytes) own_value

  this_is : (x : A) (o : Option A) → is_this x o ≡ true → o ≡ Some x
  this_is x None e = absurd cc
  this_is x (Some y) e = ap Some ((tells y x).0 e)

  checked_some : (text rest : List ℕ) (o : Option A) (y : A × List ℕ) → checked text rest o ≡ Some y → (o ≡ Some y.0)
      × ((passes y.0 ≡ true) × ((text_of y.0 ≡ text) × (rest ≡ y.1)))
  checked_some text rest None y e = absurd (none_is y e)
  checked_some text rest (Some x) y e =
      let m = met (passes x && pointwise nat_eq (text_of x) text) (x, rest) y e in
      let allowed : passes x ≡ true = and_left _ _ m.0 in
      let same : text_of x ≡ text = (bytes_decides (text_of x) text).0
      (and_right (passes x) (pointwise nat_eq (text_of x) text) m.0) in
      let is : x ≡ y.0 = ap (λ (z : A × List ℕ). z.0) m.1 in (
        ap Some is,
        (
          subst (λ (z : A). passes z ≡ true) is allowed,
          (subst (λ (z : A). text_of z ≡ text) is same, ap (λ (z : A × List ℕ). z.1) m.1),
        ),
      )

  pub spoken_round_trip : (x : A) (rest : List ℕ) → (counted.fits (text_of x) && (passes x && reads_back x)) ≡ true
      → read_spoken (counted.spelling (text_of x) ++ rest) ≡ Some (x, rest)
  spoken_round_trip x rest fits =
      let short : counted.fits (text_of x) ≡ true = and_left _ _ fits in
      let both : passes x && reads_back x ≡ true =
      and_right (counted.fits (text_of x)) (passes x && reads_back x) fits in
      let allowed : passes x ≡ true = and_left _ _ both in
      let back : value_of (text_of x) ≡ Some x =
      this_is x (value_of (text_of x)) (and_right (passes x) (reads_back x) both) in
      let same : pointwise nat_eq (text_of x) (text_of x) ≡ true = (bytes_decides (text_of x) (text_of x)).1 refl in
      ap (λ (r : Found (List ℕ)). then_read r own_value) (counted.round_trip (text_of x) rest short)
      ∙ ap (checked (text_of x) rest) back
      ∙ ap (λ (b : Bool). cond b (here x rest) None)
      (and_both (passes x) (pointwise nat_eq (text_of x) (text_of x)) allowed same)

  pub spoken_canonical : (bytes : List ℕ) (x : A) (rest : List ℕ) → IsBytes bytes → read_spoken bytes ≡ Some (x, rest)
      → Splits bytes (counted.spelling (text_of x)) rest
      × ((counted.fits (text_of x) && (passes x && reads_back x)) ≡ true)
  spoken_canonical bytes x rest fits e =
      let a = then_some (counted.read bytes) own_value (x, rest) e in
      let k = checked_some a.0.0 a.0.1 (value_of a.0.0) (x, rest) a.1.1 in
      let taken = counted.canonical bytes a.0.0 a.0.1 fits a.1.0 in
      let same : text_of x ≡ a.0.0 = k.1.1.0 in
      let back : reads_back x ≡ true = ap (is_this x) (ap value_of same ∙ k.0) ∙ (tells x x).1 refl in
      let named = subst (λ (t : List ℕ). Splits bytes (counted.spelling t) a.0.1 × (counted.fits t ≡ true)) (sym same)
      taken in (
        subst (λ (r : List ℕ). Splits bytes (counted.spelling (text_of x)) r) k.1.1.1 named.0,
        and_both _ _ named.1 (and_both _ _ k.1.0 back),
      )

  abbrev pub spoken : Codec A
  spoken = record {
    spelling = λ x. counted.spelling (text_of x);
    fits = λ x. counted.fits (text_of x) && (passes x && reads_back x);
    read = read_spoken;
    round_trip = spoken_round_trip;
    canonical = spoken_canonical;
  }
