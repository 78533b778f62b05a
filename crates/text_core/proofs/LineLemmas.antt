-- The steps of the walk over a line.
use Rattle.std.proofs.Common.{◌≡◌, ℕ, zero, suc, ◌+◌, ◌-◌, ◌<◌, ◌≤◌, Bool, true, false, ◌&&◌, ◌==◌, not, cond, List, [], ◌∷◌, length, drop, get_or, Option, Some, None, refl, ap, sym, ◌∙◌, arith, inl, inr}
use Rattle.std.specs.Option.{option_map}
use Rattle.std.proofs.lemmas.Bool.{cases_lt, cond-true, cond-false, le-leb, lt-leb}
use Rattle.std.proofs.lemmas.Bool.Decides.{nat_tests}
use Rattle.std.proofs.lemmas.List.{at_drop_more}
use Rattle.text_core.specs.declared.position.PositionEncoding.{PositionEncoding}
use Rattle.text_core.specs.declared.position.PositionEncoding.TheVariants.{Utf8, Wide}
use Rattle.text_core.specs.declared.position.WideEncoding.{WideEncoding}
use Rattle.text_core.specs.declared.position.WideEncoding.TheVariants.{Utf16, Utf32}
use Rattle.text_core.specs.Positions.{is_inside, units, past_units}
use Rattle.text_core.specs.Runs.{IsAsciiRun}

-- so many bytes further
abbrev pub further : ℕ → Option ℕ → Option ℕ
further i o = option_map (λ n. i + n) o

pub further-zero : (o : Option ℕ) → further 0 o ≡ o
further-zero None = refl
further-zero (Some n) = ap Some (omega arith)

pub further-further : (i : ℕ) (o : Option ℕ) → further i (further 1 o) ≡ further (i + 1) o
further-further i None = refl
further-further i (Some n) = ap Some (omega arith)

-- one byte of a line
pub past_over : (e : PositionEncoding) (line : List ℕ) (i left : ℕ) → i < length line → units e (get_or line i 0) ≤ left
    → past_units e left (drop i line) ≡ further 1 (past_units e (left - units e (get_or line i 0)) (drop (i + 1) line))
past_over e line i left here fits = at_drop_more (past_units e left) line i 0 here ∙ cond-true _ _ _ (le-leb _ _ fits)

pub past_here : (e : PositionEncoding) (line : List ℕ) (i left : ℕ) → i < length line → left < units e (get_or line i 0)
    → (left == 0 && not (is_inside (get_or line i 0))) ≡ true → past_units e left (drop i line) ≡ Some 0
past_here e line i left here above none =
    at_drop_more (past_units e left) line i 0 here ∙ cond-false _ _ _ (lt-leb _ _ above) ∙ cond-true _ _ _ none

pub past_inside : (e : PositionEncoding) (line : List ℕ) (i left : ℕ) → i < length line → left < units e (get_or line i 0)
    → (left == 0 && not (is_inside (get_or line i 0))) ≡ false → past_units e left (drop i line) ≡ None
past_inside e line i left here above some =
    at_drop_more (past_units e left) line i 0 here ∙ cond-false _ _ _ (lt-leb _ _ above) ∙ cond-false _ _ _ some

-- a column of bytes
past_byte : (column b : ℕ) (rest : List ℕ) → 1 ≤ column → past_units Utf8 column (b ∷ rest) ≡ further 1 (past_units Utf8 (column - 1) rest)
past_byte column b rest some = cond-true _ _ _ (le-leb _ _ some)

pub past_bytes_end : (column : ℕ) (line : List ℕ) → length line ≤ column → past_units Utf8 column line ≡ Some (length line)
past_bytes_end column [] h = refl
past_bytes_end column (b ∷ rest) h = past_byte column b rest (omega arith) ∙ ap (further 1) (past_bytes_end (column - 1) rest (omega arith)) ∙ ap Some (omega arith)

-- where a byte inside a character stands there, it has no place
abbrev place_at : ℕ → Bool → Option ℕ
place_at column inside = cond (not inside) (Some column) None

further-place_at : (column : ℕ) (inside : Bool) → further 1 (place_at column inside) ≡ place_at (column + 1) inside
further-place_at column true = refl
further-place_at column false = ap Some (omega arith)

past_bytes-at : (column : ℕ) (line : List ℕ) → column < length line → past_units Utf8 column line ≡ place_at column (is_inside (get_or line column 0))
past_bytes-at column [] h = absurd (omega arith)
past_bytes-at column (b ∷ rest) h =
    elim (cases_lt 0 column) [
      | inl some ↦
          let next : column - 1 + 1 ≡ column = omega arith in
          let whole : suc (column - 1) ≡ column = omega arith in
          let here : get_or rest (column - 1) 0 ≡ get_or (b ∷ rest) column 0 = ap (λ n. get_or (b ∷ rest) n 0) whole in
          past_byte column b rest some ∙ ap (further 1) (past_bytes-at (column - 1) rest (omega arith))
          ∙ further-place_at (column - 1) (is_inside (get_or rest (column - 1) 0))
          ∙ ap (λ n. place_at n (is_inside (get_or rest (column - 1) 0))) next ∙ ap (λ b. place_at column (is_inside b)) here
      | inr none ↦
          let first : column ≡ 0 = omega arith in
          ap (λ n. past_units Utf8 n (b ∷ rest)) first ∙ sym (ap (λ n. place_at n (is_inside (get_or (b ∷ rest) n 0))) first)
    ]

pub past_bytes_here : (column : ℕ) (line : List ℕ) → column < length line → is_inside (get_or line column 0) ≡ false → past_units Utf8 column line ≡ Some column
past_bytes_here column line within first = past_bytes-at column line within ∙ ap (place_at column) first

pub past_bytes_inside : (column : ℕ) (line : List ℕ) → column < length line → is_inside (get_or line column 0) ≡ true → past_units Utf8 column line ≡ None
past_bytes_inside column line within inside = past_bytes-at column line within ∙ ap (place_at column) inside

pub ruleset byte_steps = (past_bytes_end, past_bytes_here, past_bytes_inside)

-- a run of ASCII
further-both : (i j : ℕ) (o : Option ℕ) → further i (further j o) ≡ further (i + j) o
further-both i j None = refl
further-both i j (Some n) = ap Some (omega arith)

ascii_unit : (w : WideEncoding) (b : ℕ) → b < 128 → units (Wide w) b ≡ 1
ascii_unit Utf16 b low = grind (arith, nat_tests)
ascii_unit Utf32 b low = grind (arith, nat_tests)

pub past_run : (w : WideEncoding) (line : List ℕ) (i n left : ℕ) → IsAsciiRun line i n → n ≤ left
    → past_units (Wide w) left (drop i line) ≡ further n (past_units (Wide w) (left - n) (drop (i + n) line))
past_run w line i zero left run fits =
    let all : left - zero ≡ left = omega arith in
    let here : i + zero ≡ i = omega arith in
    sym (further-zero _ ∙ ap (λ k. past_units (Wide w) k (drop (i + zero) line)) all ∙ ap (λ k. past_units (Wide w) left (drop k line)) here)
past_run w line i (suc n) left run fits =
    let at : i + 0 ≡ i = omega arith in
    let low : get_or line i 0 < 128 = omega (arith, ap (λ k. get_or line k 0) at, run.ascii 0 (omega arith)) in
    let one = ascii_unit w (get_or line i 0) low in
    let rest : IsAsciiRun line (i + 1) n = record {
      within = omega (arith, run.within);
      ascii = λ k lt.
          let next : i + (k + 1) ≡ i + 1 + k = omega arith in
          omega (arith, ap (λ m. get_or line m 0) next, run.ascii (k + 1) (omega arith));
    } in
    let fewer : left - units (Wide w) (get_or line i 0) ≡ left - 1 = omega arith in
    let less : left - 1 - n ≡ left - suc n = omega arith in
    let past : i + 1 + n ≡ i + suc n = omega arith in
    let one_more : 1 + n ≡ suc n = omega arith in
    past_over (Wide w) line i left (omega (arith, run.within)) (omega arith)
    ∙ ap (λ k. further 1 (past_units (Wide w) k (drop (i + 1) line))) fewer
    ∙ ap (further 1) (past_run w line (i + 1) n (left - 1) rest (omega arith))
    ∙ further-both 1 n _ ∙ ap (λ k. further k (past_units (Wide w) (left - 1 - n) (drop (i + 1 + n) line))) one_more
    ∙ ap (λ k. further (suc n) (past_units (Wide w) k (drop (i + 1 + n) line))) less
    ∙ ap (λ k. further (suc n) (past_units (Wide w) (left - suc n) (drop k line))) past

-- such a run on the way
pub past_run-further : (w : WideEncoding) (line : List ℕ) (column i n left : ℕ) → past_units (Wide w) column line ≡ further i (past_units (Wide w) left (drop i line)) → IsAsciiRun line i n → n ≤ left
    → past_units (Wide w) column line ≡ further (i + n) (past_units (Wide w) (left - n) (drop (i + n) line))
past_run-further w line column i n left before run fits = before ∙ ap (further i) (past_run w line i n left run fits) ∙ further-both i n _

pub ruleset past_steps = (further-zero, further-further, past_over, past_here, past_inside)
