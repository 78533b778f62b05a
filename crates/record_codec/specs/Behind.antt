-- A value behind a fixed text.
use Rattle.std.specs.Prelude.{◌≡◌, ℕ, List, ◌++◌, length, true, cond, nat_eq, None, Some, refl}
use Rattle.std.specs.Cmp.Lexicographic.{pointwise, bytes_decides}
use Rattle.std.proofs.Common.{ap, subst, ◌∙◌, append_assoc}
use Rattle.record_codec.specs.Front.{IsBytes, Splits, Splits-then, Found, then_read, then_some, met_by}
use Rattle.record_codec.specs.Codec.{Codec}
use Rattle.record_codec.specs.Numbers.{front_of, front_round_trip, front_canonical}

module _ {A : Type 0} (head : List ℕ) (c : Codec A) where
  abbrev pub read_if_head : List ℕ → List ℕ → Found A
  read_if_head front rest = cond (pointwise nat_eq front head) (c.read rest) None

  abbrev pub read_behind : List ℕ → Found A
  read_behind bytes = then_read (front_of (length head) bytes) read_if_head

  pub behind_round_trip : (x : A) (rest : List ℕ) → c.fits x ≡ true
      → read_behind ((head ++ c.spelling x) ++ rest) ≡ Some (x, rest)
  behind_round_trip x rest fits =
      let same : pointwise nat_eq head head ≡ true = (bytes_decides head head).1 refl in
      ap read_behind (append_assoc head (c.spelling x) rest)
      ∙ ap (λ (r : Found (List ℕ)). then_read r read_if_head)
      (front_round_trip (length head) head (c.spelling x ++ rest) refl)
      ∙ rw same (c.round_trip x rest fits)

  pub behind_canonical : (bytes : List ℕ) (x : A) (rest : List ℕ) → IsBytes bytes → read_behind bytes ≡ Some (x, rest)
      → Splits bytes (head ++ c.spelling x) rest × (c.fits x ≡ true)
  behind_canonical bytes x rest fits e =
      let a = then_some (front_of (length head) bytes) read_if_head (x, rest) e in
      let front = front_canonical (length head) bytes a.0.0 a.0.1 fits a.1.0 in
      let m = met_by (pointwise nat_eq a.0.0 head) (c.read a.0.1) (x, rest) a.1.1 in
      let is_head : a.0.0 ≡ head = (bytes_decides a.0.0 head).0 m.0 in
      let taken = c.canonical a.0.1 x rest front.rest_fits m.1 in
      let named : Splits bytes head a.0.1 = subst (λ (t : List ℕ). Splits bytes t a.0.1) is_head front in
      (Splits-then bytes head a.0.1 (c.spelling x) rest named taken.0, taken.1)

  abbrev pub behind : Codec A
  behind = record {
    spelling = λ x. head ++ c.spelling x;
    fits = c.fits;
    read = read_behind;
    round_trip = behind_round_trip;
    canonical = behind_canonical;
  }
