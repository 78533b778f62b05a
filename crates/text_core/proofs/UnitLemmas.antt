-- A text has the units of its characters' encodings, and no more than bytes.
use Rattle.std.proofs.Common.{◌≡◌, ℕ, suc, ◌+◌, ◌-◌, ◌/◌, ◌%◌, ◌<◌, ◌≤◌, inl, inr, refl, List, [], ◌∷◌, length, drop, ap, sym, subst, ◌∙◌, arith}
use Rattle.std.specs.Prelude.{slice_range}
use Rattle.std.specs.Char.Escape.{encode_utf16}
use Rattle.std.specs.List.{flat_map, sum_by}
use Rattle.std.specs.Str.{IsAscii, IsUtf8, chars}
use Rattle.std.proofs.lemmas.Bool.{cases_lt, cond-true, cond-false, lt-ltb, le-ltb}
use Rattle.std.proofs.lemmas.Bool.Decides.{nat_tests}
use Rattle.std.proofs.lemmas.List.{length-append}
use Rattle.std.proofs.lemmas.List.Sums.{sum_by-append, sum_by-cons, sum_by-take-drop, sum_by-take-le}
use Rattle.std.proofs.lemmas.List.Concat.{length-flat_map}
use Rattle.std.proofs.lemmas.Str.{encode_ascii, encodes-chars}
use lib.Utf8.{encode, encodes}
use Rattle.text_core.specs.declared.position.PositionEncoding.{PositionEncoding}
use Rattle.text_core.specs.declared.position.PositionEncoding.TheVariants.{Utf8, Wide}
use Rattle.text_core.specs.declared.position.WideEncoding.{WideEncoding}
use Rattle.text_core.specs.declared.position.WideEncoding.TheVariants.{Utf16, Utf32}
use Rattle.text_core.specs.Columns.{units_of}
use Rattle.text_core.specs.Positions.{units, wide_units}

-- in bytes a front has its length
pub bytes_of : (front : List ℕ) → units_of Utf8 front ≡ length front
bytes_of [] = refl
bytes_of (b ∷ front) = omega (arith, sum_by-cons (units Utf8) b front, bytes_of front)

follower : (w : WideEncoding) (b : ℕ) → 128 ≤ b → b < 192 → wide_units w b ≡ 0
follower w b low high = grind (arith, nat_tests)

lead : (w : WideEncoding) (b : ℕ) → 192 ≤ b → b < 240 → wide_units w b ≡ 1
lead Utf16 b low high = grind (arith, nat_tests)
lead Utf32 b low high = grind (arith, nat_tests)

pair : (b : ℕ) → 240 ≤ b → wide_units Utf16 b ≡ 2
pair b low = grind (arith, nat_tests)

alone : (b : ℕ) → 240 ≤ b → wide_units Utf32 b ≡ 1
alone b low = grind (arith, nat_tests)

next : (w : WideEncoding) (n : ℕ) → wide_units w (128 + n % 64) ≡ 0
next w n = follower w (128 + n % 64) (omega arith) (omega arith)

single_ascii : (w : WideEncoding) (b : ℕ) → b < 128 → wide_units w b ≡ 1
single_ascii Utf16 b low = grind (arith, nat_tests)
single_ascii Utf32 b low = grind (arith, nat_tests)

-- ASCII has as many units as bytes
pub units_of_ascii : (w : WideEncoding) (front : List ℕ) → IsAscii front → units_of (Wide w) front ≡ length front
units_of_ascii w [] ascii = refl
units_of_ascii w (b ∷ front) ascii =
    omega (arith, sum_by-cons (wide_units w) b front, single_ascii w b (ascii 0), units_of_ascii w front (λ n. ascii (suc n)))

two_bytes : (c : ℕ) → 128 ≤ c → c < 2048 → encode c ≡ (192 + c / 64) ∷ (128 + c % 64) ∷ []
unfolding encode
two_bytes c low high = cond-false _ _ _ (le-ltb _ _ low) ∙ cond-true _ _ _ (lt-ltb _ _ high)

three_bytes : (c : ℕ) → 2048 ≤ c → c < 65536 → encode c ≡ (224 + c / 4096) ∷ (128 + c / 64 % 64) ∷ (128 + c % 64) ∷ []
unfolding encode
three_bytes c low high =
    cond-false _ _ _ (le-ltb c 128 (omega arith)) ∙ cond-false _ _ _ (le-ltb _ _ low) ∙ cond-true _ _ _ (lt-ltb _ _ high)

four_bytes : (c : ℕ) → 65536 ≤ c → encode c ≡ (240 + c / 262144) ∷ (128 + c / 4096 % 64) ∷ (128 + c / 64 % 64) ∷ (128 + c % 64) ∷ []
unfolding encode
four_bytes c low =
    cond-false _ _ _ (le-ltb c 128 (omega arith)) ∙ cond-false _ _ _ (le-ltb c 2048 (omega arith)) ∙ cond-false _ _ _ (le-ltb _ _ low)

-- the units that a character is written with
abbrev written : WideEncoding → ℕ → ℕ
written Utf16 c = length (encode_utf16 c)
written Utf32 c = 1

written_low : (w : WideEncoding) (c : ℕ) → c < 65536 → written w c ≡ 1
written_low Utf16 c low = ap length (cond-true _ _ _ (lt-ltb _ _ low))
written_low Utf32 c low = refl

written_two : (c : ℕ) → 65536 ≤ c → written Utf16 c ≡ 2
written_two c high = ap length (cond-false _ _ _ (le-ltb _ _ high))

written_high : (w : WideEncoding) (c : ℕ) → 65536 ≤ c → wide_units w (240 + c / 262144) ≡ written w c
written_high Utf16 c high = pair (240 + c / 262144) (omega arith) ∙ sym (written_two c high)
written_high Utf32 c high = alone (240 + c / 262144) (omega arith)

written_most : (w : WideEncoding) (c : ℕ) → 65536 ≤ c → written w c ≤ 2
written_most Utf16 c high = omega (arith, written_two c high)
written_most Utf32 c high = omega arith

-- bytes have the units of a character, and no more than bytes
abbrev Counts : WideEncoding → ℕ → List ℕ → Type 0
Counts w c bytes = (sum_by (wide_units w) bytes ≡ written w c) × (sum_by (wide_units w) bytes ≤ length bytes)

character : (w : WideEncoding) (c : ℕ) → Counts w c (encode c)
character w c = elim (cases_lt c 128) [
  | inl ascii ↦
      let one = single_ascii w c ascii in
      subst (Counts w c) (sym (encode_ascii c ascii)) (omega (arith, one, written_low w c (omega arith)), omega (arith, one))
  | inr above ↦ elim (cases_lt c 2048) [
    | inl two ↦
        let first = lead w (192 + c / 64) (omega arith) (omega arith) in
        subst (Counts w c) (sym (two_bytes c above two))
        (omega (arith, first, next w c, written_low w c (omega arith)), omega (arith, first, next w c))
    | inr more ↦ elim (cases_lt c 65536) [
      | inl three ↦
          let first = lead w (224 + c / 4096) (omega arith) (omega arith) in
          subst (Counts w c) (sym (three_bytes c more three))
          (omega (arith, first, next w (c / 64), next w c, written_low w c three), omega (arith, first, next w (c / 64), next w c))
      | inr four ↦
          let first = written_high w c four in
          subst (Counts w c) (sym (four_bytes c four))
          (omega (arith, first, next w (c / 4096), next w (c / 64), next w c), omega (arith, first, written_most w c four, next w (c / 4096), next w (c / 64), next w c))
    ]
  ]
]

characters : (w : WideEncoding) (cs : List ℕ) → (sum_by (wide_units w) (encodes cs) ≡ sum_by (written w) cs) × (sum_by (wide_units w) (encodes cs) ≤ length (encodes cs))
characters w [] = (refl, omega arith)
characters w (c ∷ cs) =
    let both = sum_by-append (wide_units w) (encode c) (encodes cs) in
    let one = character w c in
    let rest = characters w cs in (
      omega (arith, both, one.0, rest.0, sum_by-cons (written w) c cs),
      omega (arith, both, length-append (encode c) (encodes cs), one.1, rest.1),
    )

wide_units_of : (w : WideEncoding) (text : List ℕ) → IsUtf8 text → sum_by (wide_units w) text ≤ length text
wide_units_of w text utf8 = subst (λ bytes. sum_by (wide_units w) bytes ≤ length bytes) utf8.1.1 (characters w utf8.0).1

pub units_of_text : (e : PositionEncoding) (text : List ℕ) → IsUtf8 text → units_of e text ≤ length text
units_of_text Utf8 text utf8 = omega (arith, bytes_of text)
units_of_text (Wide w) text utf8 = wide_units_of w text utf8

-- the same of the text of these characters
written_by : (w : WideEncoding) (text : List ℕ) → IsUtf8 text → units_of (Wide w) text ≡ sum_by (written w) (chars text)
written_by w text utf8 = ap (sum_by (wide_units w)) (sym (encodes-chars text utf8)) ∙ (characters w (chars text)).0

ones : (cs : List ℕ) → sum_by (written Utf32) cs ≡ length cs
ones [] = refl
ones (c ∷ cs) = omega (arith, sum_by-cons (written Utf32) c cs, ones cs)

pub written_in_utf16 : (text : List ℕ) → IsUtf8 text → units_of (Wide Utf16) text ≡ length (flat_map encode_utf16 (chars text))
written_in_utf16 text utf8 = written_by Utf16 text utf8 ∙ sym (length-flat_map encode_utf16 (chars text))

pub written_in_utf32 : (text : List ℕ) → IsUtf8 text → units_of (Wide Utf32) text ≡ length (chars text)
written_in_utf32 text utf8 = written_by Utf32 text utf8 ∙ ones (chars text)

pub units_of_part : (e : PositionEncoding) (text : List ℕ) (start stop : ℕ) → IsUtf8 text → units_of e (slice_range text start stop) ≤ length text
units_of_part e text start stop utf8 =
    omega (arith, units_of_text e text utf8, sum_by-take-le (units e) (drop start text) (stop - start), sum_by-take-drop (units e) text start)
