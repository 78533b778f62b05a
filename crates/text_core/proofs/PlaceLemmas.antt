-- What a place of a position is: in its line, and between whole characters.
use Rattle.std.proofs.Common.{◌≡◌, ℕ, zero, suc, ◌+◌, ◌-◌, ◌<◌, ◌≤◌, Bool, true, false, not, ◌&&◌, ◌==◌, List, [], ◌∷◌, length, drop, get_or, Option, Some, None, refl, ap, sym, subst, ◌∙◌, arith, inl, inr, ⊎_elim, add-one}
use Rattle.std.specs.Prelude.{IfSome, ◌⊎◌, nat_le, slice_range, slice_index}
use Rattle.std.specs.Option.{option_map, unwrap_or}
use Rattle.std.specs.Str.{IsUtf8, IsCharBoundary}
use Rattle.std.specs.String.Boundary.{IsSplitPoint}
use Rattle.std.proofs.lemmas.Bool.{cases_Bool, cases_lt, cond-true, cond-false}
use Rattle.std.proofs.lemmas.Bool.Decides.{nat_tests}
use Rattle.std.proofs.lemmas.List.{get_or-take, get_or-drop, length-take, length-drop}
use Rattle.std.proofs.lemmas.Str.{IsCharBoundary-after_ascii, IsCharBoundary-end}
use Rattle.text_core.specs.declared.position.PositionEncoding.{PositionEncoding}
use Rattle.text_core.specs.Positions.{ends_line, line_start, line_end, line_span, is_inside, units, past_units}
use Rattle.text_core.proofs.StartLemmas.{further_some, some_inj, line_start-within, line_start-next}

pub option_cases : (o : Option ℕ) → ((n : ℕ) × (o ≡ Some n)) ⊎ (o ≡ None)
option_cases None = inr refl
option_cases (Some n) = inl (n, refl)

not_inside : (c : ℕ) (b : Bool) → (c == 0 && not b) ≡ true → b ≡ false
not_inside c true h = grind arith
not_inside c false h = refl

-- a column ends within its line, and no byte inside a character follows
pub past_whole : (e : PositionEncoding) (column : ℕ) (line : List ℕ) (n : ℕ) → past_units e column line ≡ Some n
    → (n ≤ length line) × (n < length line → is_inside (get_or line n 0) ≡ false)
past_whole e column [] n h = let none : 0 ≡ n = some_inj _ _ h in (omega arith, λ lt. absurd (omega arith))
past_whole e column (b ∷ rest) n h =
    ⊎_elim
    (λ t.
    let here = further_some 1 _ n (sym (cond-true _ _ _ t) ∙ h) in
    let later = past_whole e (column - units e b) rest here.0 here.1 in
    let next : suc here.0 ≡ n = omega (arith, here.2) in
    (omega (arith, later.0), λ lt. subst (λ k. is_inside (get_or (b ∷ rest) k 0) ≡ false) next (later.1 (omega arith))))
    (λ f.
    let left : past_units e column (b ∷ rest) ≡ _ = cond-false _ _ _ f in
    ⊎_elim
    (λ t.
    let none : 0 ≡ n = some_inj _ _ (sym (cond-true _ _ _ t) ∙ sym left ∙ h) in
    (omega arith, λ lt. subst (λ k. is_inside (get_or (b ∷ rest) k 0) ≡ false) none (not_inside column (is_inside b) t)))
    (λ u. let none : None ≡ Some n = sym (cond-false _ _ _ u) ∙ sym left ∙ h in cc)
    (cases_Bool (column == 0 && not (is_inside b))))
    (cases_Bool (nat_le (units e b) column))

pub past-within : (e : PositionEncoding) (column : ℕ) (line : List ℕ) (o : Option ℕ) → o ≡ past_units e column line → IfSome o (λ n. n ≤ length line)
past-within e column line None h = tt
past-within e column line (Some n) h = (past_whole e column line n (sym h)).0

-- the byte before the start of a line that isn't the first is LF
pub line_start-after_lf : (line : ℕ) (text : List ℕ) (k : ℕ) → line_start (suc line) text ≡ Some k
    → (m : ℕ) × (k ≡ suc m) × (m < length text) × (get_or text m 0 ≡ 10)
line_start-after_lf line [] k h = cc
line_start-after_lf zero (b ∷ rest) k h =
    let here = further_some 1 _ k h in
    ⊎_elim
    (λ t.
    let none : 0 ≡ here.0 = some_inj _ _ (sym (cond-true _ _ _ t) ∙ here.1) in
    (0, omega (arith, here.2), omega arith, grind (arith, nat_tests, t)))
    (λ f.
    let later = line_start-after_lf zero rest here.0 (sym (cond-false _ _ _ f) ∙ here.1) in
    (suc later.0, omega (arith, here.2, later.1), omega (arith, later.2), later.3))
    (cases_Bool (ends_line b))
line_start-after_lf (suc line) (b ∷ rest) k h =
    let here = further_some 1 _ k h in
    ⊎_elim
    (λ t.
    let later = line_start-after_lf line rest here.0 (sym (cond-true _ _ _ t) ∙ here.1) in
    (suc later.0, omega (arith, here.2, later.1), omega (arith, later.2), later.3))
    (λ f.
    let later = line_start-after_lf (suc line) rest here.0 (sym (cond-false _ _ _ f) ∙ here.1) in
    (suc later.0, omega (arith, here.2, later.1), omega (arith, later.2), later.3))
    (cases_Bool (ends_line b))

-- where the next line begins, or the text ends
pub line_end-cases : (line : ℕ) (text : List ℕ)
    → ((k : ℕ) × (line_start (suc line) text ≡ Some k) × (line_end line text ≡ k)) ⊎ (line_end line text ≡ length text)
line_end-cases line text =
    let one : line + 1 ≡ suc line = add-one line in
    ⊎_elim
    (λ next. inl (next.0, ap (λ n. line_start n text) (sym one) ∙ next.1, ap (λ o. unwrap_or o (length text)) next.1))
    (λ none. inr (ap (λ o. unwrap_or o (length text)) none))
    (option_cases (line_start (line + 1) text))

-- a line ends after its start and within the text
pub line_end-bounds : (line : ℕ) (text : List ℕ) (start : ℕ) → line_start line text ≡ Some start
    → (start ≤ line_end line text) × (line_end line text ≤ length text)
line_end-bounds line text start h =
    ⊎_elim
    (λ next.
    let later = line_start-next line text start next.0 h next.1 in
    let within = line_start-within (suc line) text next.0 next.1 in
    (omega (arith, next.2), omega (arith, next.2)))
    (λ last.
    let within = line_start-within line text start h in
    (omega (arith, last), omega (arith, last)))
    (line_end-cases line text)

-- a line ends between whole characters
pub line_end-split : (line : ℕ) (text : List ℕ) → IsUtf8 text → IsCharBoundary text (line_end line text)
line_end-split line text utf8 =
    ⊎_elim
    (λ next.
    let lf = line_start-after_lf line text next.0 next.1 in
    let place : lf.0 + 1 ≡ line_end line text = omega (arith, lf.1, next.2) in
    subst (IsCharBoundary text) place (IsCharBoundary-after_ascii text lf.0 utf8 lf.2 (omega (arith, lf.3))))
    (λ last. subst (IsCharBoundary text) (sym last) (IsCharBoundary-end text))
    (line_end-cases line text)

-- a line begins between whole characters
pub line_start-split : (line : ℕ) (text : List ℕ) (start : ℕ) → IsUtf8 text → line_start line text ≡ Some start → IsSplitPoint text start
line_start-split zero text start utf8 h =
    let first : 0 ≡ start = some_inj _ _ h in
    (omega arith, λ some _ _. absurd (omega arith))
line_start-split (suc line) text start utf8 h =
    let lf = line_start-after_lf line text start h in
    let place : lf.0 + 1 ≡ start = omega (arith, lf.1) in
    let whole = subst (IsCharBoundary text) place (IsCharBoundary-after_ascii text lf.0 utf8 lf.2 (omega (arith, lf.3))) in
    (whole.0, λ _ low wide. whole.1 low wide)

first_byte : (b : ℕ) → is_inside b ≡ false → 128 ≤ b → 192 ≤ b
first_byte b h low = grind (arith, nat_tests)

pub span_parts : (line : ℕ) (text : List ℕ) (start stop : ℕ) → line_span line text ≡ Some (start, stop)
    → (line_start line text ≡ Some start) × (line_end line text ≡ stop)
span_parts line text start stop h =
    ⊎_elim
    (λ some.
    let whole : Some (some.0, line_end line text) ≡ Some (start, stop) = sym (ap (option_map (λ n. (n, line_end line text))) some.1) ∙ h in
    (some.1 ∙ ap (option_map (λ (p : ℕ × ℕ). p.0)) whole, some_inj _ _ (ap (option_map (λ (p : ℕ × ℕ). p.1)) whole)))
    (λ none. let whole : None ≡ Some (start, stop) = sym (ap (option_map (λ n. (n, line_end line text))) none) ∙ h in cc)
    (option_cases (line_start line text))

-- a column of a line stands between whole characters
pub place-split : (e : PositionEncoding) (text : List ℕ) (line column start stop past : ℕ) → IsUtf8 text
    → line_span line text ≡ Some (start, stop) → past_units e column (slice_range text start stop) ≡ Some past
    → IsCharBoundary text (start + past)
place-split e text line column start stop past utf8 span h =
    let parts = span_parts line text start stop span in
    let bounds = line_end-bounds line text start parts.0 in
    let whole = past_whole e column (slice_range text start stop) past h in
    let size : length (slice_range text start stop) ≡ stop - start =
    length-take (stop - start) (drop start text) ∙ omega (arith, length-drop start text, parts.1, bounds.0, bounds.1) in
    elim (cases_lt (start + past) stop) [
      | inl before ↦ (
        omega (arith, whole.0, parts.1, bounds.0, bounds.1),
        λ within low.
            let here : get_or (slice_range text start stop) past 0 ≡ slice_index text (start + past) =
            get_or-take (stop - start) (drop start text) past 0 (omega arith) ∙ get_or-drop start text past 0 in
            first_byte (slice_index text (start + past)) (ap is_inside (sym here) ∙ whole.1 (omega arith)) low,
      )
      | inr end ↦
          let place : line_end line text ≡ start + past = omega (arith, whole.0, parts.1, bounds.0, bounds.1) in
          subst (IsCharBoundary text) place (line_end-split line text utf8)
    ]
