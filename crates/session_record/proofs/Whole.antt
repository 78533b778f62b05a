-- A value that canonical all of the bytes.
use Rattle.std.proofs.Common.{◌≡◌, ℕ, List, [], ◌++◌, true, sym, ap, ◌∙◌}
use Rattle.std.proofs.lemmas.List.{append-nil}
use Rattle.record_codec.specs.Front.{IsBytes, here, some_is}
use Rattle.record_codec.specs.Codec.{Codec}

module _ {A : Type 0} (c : Codec A) where
  pub all_found : (bytes : List ℕ) (x : A) → IsBytes bytes → c.read bytes ≡ here x [] → (c.fits x ≡ true) × (bytes ≡ c.spelling x)
  all_found bytes x fits e =
      let taken = c.canonical bytes x [] fits e in
      (taken.1, taken.0.parts ∙ append-nil (c.spelling x))

  pub all_again : (bytes : List ℕ) (x : A) → c.fits x ≡ true → bytes ≡ c.spelling x → c.read bytes ≡ here x []
  all_again bytes x fits e = ap c.read (e ∙ sym (append-nil (c.spelling x))) ∙ c.round_trip x [] fits

  pub one_value : (x y : A) → c.fits x ≡ true → c.fits y ≡ true → c.spelling x ≡ c.spelling y → x ≡ y
  one_value x y p q e =
      let both : here x [] ≡ here y [] = sym (c.round_trip x [] p) ∙ ap (λ (t : List ℕ). c.read (t ++ [])) e ∙ c.round_trip y [] q in
      ap (λ (z : A × List ℕ). z.0) (some_is (x, []) (y, []) both)

  pub same_value : (bytes : List ℕ) (x y : A) → c.read bytes ≡ here x [] → c.fits y ≡ true → bytes ≡ c.spelling y → x ≡ y
  same_value bytes x y h fits e =
      ap (λ (z : A × List ℕ). z.0) (some_is (x, []) (y, []) (sym h ∙ all_again bytes y fits e))

  pub no_value : (bytes : List ℕ) → ((x : A) → c.read bytes ≡ here x [] → ⊥) → (y : A) → c.fits y ≡ true → bytes ≡ c.spelling y → ⊥
  no_value bytes none y fits e = none y (all_again bytes y fits e)
