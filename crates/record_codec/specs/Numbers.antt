-- Numbers and truths.
use Rattle.std.specs.Prelude.{◌≡◌, ℕ, ◌<◌, ◌≤◌, ◌^◌, ℤ, ◌&&◌, List, ◌++◌, length, take, drop, Bool, true, false, cond}
use Rattle.std.specs.Prelude.{nat_lt, Some, None, if◌then◌else◌, refl}
use Rattle.std.specs.Int.{Width, w32, w64, byte_len, from_le_bytes, to_le_bytes, cast_signed, cast_unsigned}
use Rattle.std.specs.Str.{is_utf8}
use Rattle.std.specs.Ordering.{int_eq}
use Rattle.std.specs.Cmp.{signed_Decides}
use Rattle.std.proofs.lemmas.Int.{of_z-to_z}
use Rattle.std.proofs.Common.{sym, ap, subst, ◌∙◌, arith, append_assoc}
use Rattle.std.proofs.lemmas.Bool.{ltb-false, le-ltb, lt-ltb, ltb-true}
use Rattle.std.proofs.lemmas.List.{take_at, drop_at, take-append-drop, length-append, length-take}
use Rattle.std.proofs.lemmas.Nat.{le_bytes_4, le_bytes_8, from_le_bytes-to_le_bytes_4, from_le_bytes-to_le_bytes_8}
use Rattle.record_codec.specs.Front.{IsBytes, IsBytes-take, IsBytes-drop, Splits, Splits-then, Found, then_read}
use Rattle.record_codec.specs.Front.{then_some, some_is, here, via, via_some, and_left, and_right, and_both}
use Rattle.record_codec.specs.Codec.{Codec, passing}

-- so many bytes at the front
abbrev pub front_of : ℕ → List ℕ → Found (List ℕ)
front_of n bytes = if nat_lt (length bytes) n then None else Some (take n bytes, drop n bytes)

-- a test that refuses was not met
passed : {A : Type 0} (b : Bool) (x y : A) → cond b None (Some x) ≡ Some y → (b ≡ false) × (x ≡ y)
passed true x y e = absurd cc
passed false x y e = (refl, cc)

pub front_some : (n : ℕ) (bytes : List ℕ) (x : List ℕ × List ℕ) → front_of n bytes ≡ Some x → (n ≤ length bytes)
    × ((take n bytes, drop n bytes) ≡ x)
front_some n bytes x e =
    let p = passed (nat_lt (length bytes) n) (take n bytes, drop n bytes) x e in
    (ltb-false _ _ p.0, p.1)

pub front_canonical : (n : ℕ) (bytes front rest : List ℕ) → IsBytes bytes → front_of n bytes ≡ Some (front, rest)
    → Splits bytes front rest
front_canonical n bytes front rest fits e =
    let f = front_some n bytes (front, rest) e in
    let taken : Splits bytes (take n bytes) (drop n bytes) =
    record { parts = sym (take-append-drop n bytes); rest_fits = IsBytes-drop n bytes fits } in
    subst (λ (y : List ℕ × List ℕ). Splits bytes y.0 y.1) f.1 taken

pub front_round_trip : (n : ℕ) (text rest : List ℕ) → length text ≡ n → front_of n (text ++ rest) ≡ Some (text, rest)
front_round_trip n text rest len =
    let long : nat_lt (length (text ++ rest)) n ≡ false = le-ltb _ _ (omega (arith, length-append text rest)) in
    rw (long, take_at text rest n len, drop_at text rest n len) refl

-- ---- numbers, the low byte first

pub record IsWide (w : Width) (limit : ℕ) : Type 0 where
  pub len : (n : ℕ) → length (to_le_bytes w n) ≡ byte_len w
  pub back : (bytes : List ℕ) → length bytes ≡ byte_len w → IsBytes bytes
      → to_le_bytes w (from_le_bytes w bytes) ≡ bytes
  pub same : (n : ℕ) → n < limit → from_le_bytes w (to_le_bytes w n) ≡ n
  pub below : (bytes : List ℕ) → IsBytes bytes → from_le_bytes w bytes < limit

pub wide32 : IsWide w32 (2 ^ 32)
wide32 = record {
  len = λ n. refl;
  back = λ bytes len fits. le_bytes_4 bytes _ len fits refl;
  same = λ n lt. from_le_bytes-to_le_bytes_4 n lt;
  below = λ bytes fits. omega (arith, fits 0, fits 1, fits 2, fits 3);
}

pub wide64 : IsWide w64 (2 ^ 64)
wide64 = record {
  len = λ n. refl;
  back = λ bytes len fits. le_bytes_8 bytes _ len fits refl;
  same = λ n lt. from_le_bytes-to_le_bytes_8 n lt;
  below = λ bytes fits. omega (arith, fits 0, fits 1, fits 2, fits 3, fits 4, fits 5, fits 6, fits 7);
}

abbrev pub number_of : Width → List ℕ → List ℕ → Found ℕ
number_of w text rest = Some (from_le_bytes w text, rest)

abbrev pub read_number : Width → List ℕ → Found ℕ
read_number w bytes = then_read (front_of (byte_len w) bytes) (number_of w)

module _ (w : Width) (limit : ℕ) (wide : IsWide w limit) where
  pub number_round_trip : (n : ℕ) (rest : List ℕ) → nat_lt n limit ≡ true
      → read_number w (to_le_bytes w n ++ rest) ≡ Some (n, rest)
  number_round_trip n rest lt =
      rw (front_round_trip (byte_len w) (to_le_bytes w n) rest (wide.len n), wide.same n (ltb-true _ _ lt)) refl

  pub number_canonical : (bytes : List ℕ) (n : ℕ) (rest : List ℕ) → IsBytes bytes → read_number w bytes ≡ Some (n, rest)
      → Splits bytes (to_le_bytes w n) rest × (nat_lt n limit ≡ true)
  number_canonical bytes n rest fits e =
      let a = then_some (front_of (byte_len w) bytes) (number_of w) (n, rest) e in
      let f = front_some (byte_len w) bytes a.0 a.1.0 in
      let len : length (take (byte_len w) bytes) ≡ byte_len w = omega (arith, f.0, length-take (byte_len w) bytes) in
      let small = IsBytes-take (byte_len w) bytes fits in
      let front : to_le_bytes w (from_le_bytes w (take (byte_len w) bytes)) ≡ take (byte_len w) bytes =
      wide.back (take (byte_len w) bytes) len small in
      let taken : Splits bytes (to_le_bytes w (from_le_bytes w (take (byte_len w) bytes))) (drop (byte_len w) bytes) =
      record {
        parts = rw front (sym (take-append-drop (byte_len w) bytes));
        rest_fits = IsBytes-drop (byte_len w) bytes fits;
      } in
      let under : nat_lt (from_le_bytes w (take (byte_len w) bytes)) limit ≡ true =
      lt-ltb _ _ (wide.below (take (byte_len w) bytes) small) in
      let read : (from_le_bytes w (take (byte_len w) bytes), drop (byte_len w) bytes) ≡ (n, rest) =
      ap (λ (y : List ℕ × List ℕ). (from_le_bytes w y.0, y.1)) f.1 ∙ some_is _ _ a.1.1 in
      subst (λ (y : ℕ × List ℕ). Splits bytes (to_le_bytes w y.0) y.1 × (nat_lt y.0 limit ≡ true)) read (taken, under)

  abbrev pub number : Codec ℕ
  number = record {
    spelling = to_le_bytes w;
    fits = λ n. nat_lt n limit;
    read = read_number w;
    round_trip = number_round_trip;
    canonical = number_canonical;
  }

abbrev pub number32 : Codec ℕ
number32 = number w32 (2 ^ 32) wide32

abbrev pub number64 : Codec ℕ
number64 = number w64 (2 ^ 64) wide64

-- ---- bytes behind their length

abbrev pub read_counted : List ℕ → Found (List ℕ)
read_counted bytes = then_read (read_number w32 bytes) front_of

pub counted_round_trip : (text rest : List ℕ) → nat_lt (length text) (2 ^ 32) ≡ true
    → read_counted ((to_le_bytes w32 (length text) ++ text) ++ rest) ≡ Some (text, rest)
counted_round_trip text rest lt =
    ap read_counted (append_assoc (to_le_bytes w32 (length text)) text rest)
    ∙ ap (λ (r : Found ℕ). then_read r front_of) (number_round_trip w32 (2 ^ 32) wide32 (length text) (text ++ rest) lt)
    ∙ front_round_trip (length text) text rest refl

pub counted_canonical : (bytes text rest : List ℕ) → IsBytes bytes → read_counted bytes ≡ Some (text, rest)
    → Splits bytes (to_le_bytes w32 (length text) ++ text) rest × (nat_lt (length text) (2 ^ 32) ≡ true)
counted_canonical bytes text rest fits e =
    let a = then_some (read_number w32 bytes) front_of (text, rest) e in
    let n = a.0.0 in
    let behind = a.0.1 in
    let t = number_canonical w32 (2 ^ 32) wide32 bytes n behind fits a.1.0 in
    let f = front_some n behind (text, rest) a.1.1 in
    let len : length (take n behind) ≡ n = omega (arith, f.0, length-take n behind) in
    let second : Splits behind (take n behind) (drop n behind) =
    record { parts = sym (take-append-drop n behind); rest_fits = IsBytes-drop n behind t.0.rest_fits } in
    let both = Splits-then bytes (to_le_bytes w32 n) behind (take n behind) (drop n behind) t.0 second in
    let whole : Splits bytes (to_le_bytes w32 (length (take n behind)) ++ take n behind) (drop n behind)
    × (nat_lt (length (take n behind)) (2 ^ 32) ≡ true) =
    subst (λ (k : ℕ). Splits bytes (to_le_bytes w32 k ++ take n behind) (drop n behind) × (nat_lt k (2 ^ 32) ≡ true))
    (sym len) (both, t.1) in
    subst (λ (p : List ℕ × List ℕ). Splits bytes (to_le_bytes w32 (length p.0) ++ p.0) p.1
    × (nat_lt (length p.0) (2 ^ 32) ≡ true)) f.1 whole

abbrev pub counted : Codec (List ℕ)
counted = record {
  spelling = λ text. to_le_bytes w32 (length text) ++ text;
  fits = λ text. nat_lt (length text) (2 ^ 32);
  read = read_counted;
  round_trip = counted_round_trip;
  canonical = counted_canonical;
}

-- UTF-8 behind its length
unfoldable pub text : Codec (List ℕ)
text = passing is_utf8 counted

-- ---- signed numbers, by their bits

-- what 32 bits hold: written and read, it is itself
abbrev pub is_signed32 : ℤ → Bool
is_signed32 z = nat_lt (cast_unsigned w32 z) (2 ^ 32) && int_eq (cast_signed w32 (cast_unsigned w32 z)) z

pub signed32_round_trip : (z : ℤ) (rest : List ℕ) → is_signed32 z ≡ true
    → via (cast_signed w32) (read_number w32 (to_le_bytes w32 (cast_unsigned w32 z) ++ rest)) ≡ Some (z, rest)
signed32_round_trip z rest fits =
    let short : nat_lt (cast_unsigned w32 z) (2 ^ 32) ≡ true = and_left _ _ fits in
    let same : cast_signed w32 (cast_unsigned w32 z) ≡ z =
    (signed_Decides _ _).0 (and_right (nat_lt (cast_unsigned w32 z) (2 ^ 32)) _ fits) in
    ap (via (cast_signed w32)) (number_round_trip w32 (2 ^ 32) wide32 (cast_unsigned w32 z) rest short)
    ∙ ap (λ (y : ℤ). here y rest) same

pub signed32_canonical : (bytes : List ℕ) (z : ℤ) (rest : List ℕ) → IsBytes bytes
    → via (cast_signed w32) (read_number w32 bytes) ≡ Some (z, rest)
    → Splits bytes (to_le_bytes w32 (cast_unsigned w32 z)) rest × (is_signed32 z ≡ true)
signed32_canonical bytes z rest fits e =
    let a = via_some (cast_signed w32) (read_number w32 bytes) (z, rest) e in
    let taken = number_canonical w32 (2 ^ 32) wide32 bytes a.0.0 a.0.1 fits a.1.0 in
    let bits : cast_unsigned w32 (cast_signed w32 a.0.0) ≡ a.0.0 = of_z-to_z w32 a.0.0 (ltb-true _ _ taken.1) in
    let short : nat_lt (cast_unsigned w32 (cast_signed w32 a.0.0)) (2 ^ 32) ≡ true =
    ap (λ (n : ℕ). nat_lt n (2 ^ 32)) bits ∙ taken.1 in
    let same : int_eq (cast_signed w32 (cast_unsigned w32 (cast_signed w32 a.0.0))) (cast_signed w32 a.0.0) ≡ true =
    (signed_Decides _ _).1 (ap (cast_signed w32) bits) in
    let named : Splits bytes (to_le_bytes w32 (cast_unsigned w32 (cast_signed w32 a.0.0))) a.0.1 =
    subst (λ (n : ℕ). Splits bytes (to_le_bytes w32 n) a.0.1) (sym bits) taken.0 in
    subst (λ (y : ℤ × List ℕ). Splits bytes (to_le_bytes w32 (cast_unsigned w32 y.0)) y.1 × (is_signed32 y.0 ≡ true))
    a.1.1
    (named, and_both _ _ short same)

unfoldable pub signed32 : Codec ℤ
signed32 = record {
  spelling = λ z. to_le_bytes w32 (cast_unsigned w32 z);
  fits = is_signed32;
  read = λ bytes. via (cast_signed w32) (read_number w32 bytes);
  round_trip = signed32_round_trip;
  canonical = signed32_canonical;
}
