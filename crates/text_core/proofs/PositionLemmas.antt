-- The position of a place, and the place of a position.
use Rattle.std.proofs.Common.{◌≡◌, ℕ, zero, suc, ◌+◌, ◌-◌, ◌<◌, ◌≤◌, true, false, not, cond, List, [], ◌∷◌, length, take, drop, get_or, Some, None, Result, Ok, Err, inl, inr, refl, ap, sym, ◌∙◌, arith, ⊎_elim, add-one}
use Rattle.std.specs.Prelude.{slice_get, slice_range}
use Rattle.std.specs.List.{after_last, count_by, suffix_len}
use Rattle.std.specs.Option.{option_map, unwrap_or}
use Rattle.std.specs.Str.{IsUtf8, IsCharBoundary}
use Rattle.std.specs.String.Boundary.{IsSplitPoint}
use Rattle.std.proofs.lemmas.Bool.{cases_Bool, cases_lt, cond-true, cond-false, lt-ltb, le-ltb}
use Rattle.std.proofs.lemmas.Bool.Decides.{nat_tests}
use Rattle.std.proofs.lemmas.List.{drop-take, get_or-take, get_or-drop, length-take, length-drop, take-take}
use Rattle.std.proofs.lemmas.List.Sums.{sum_by-cons, count_by-le-length, count_by_more_no, count_by_more_yes, suffix_len-take_no, suffix_len-take_yes, suffix_len-le-length}
use Rattle.std.proofs.lemmas.Option.{get_or_from_slice_get, slice_get_within}
use Rattle.std.proofs.lemmas.Str.{IsCharBoundary-start}
use Rattle.text_core.specs.declared.position.PositionEncoding.{PositionEncoding}
use Rattle.text_core.specs.declared.position.Position.{Position}
use Rattle.text_core.specs.declared.position.OffsetFault.{OffsetFault}
use Rattle.text_core.specs.declared.position.OffsetFault.TheVariants.{LinePastEnd, InsideCharacter}
use Rattle.text_core.specs.Columns.{units_of}
use Rattle.text_core.specs.Lines.{bytes_in, line_of}
use Rattle.text_core.specs.Places.{position_of, end_of, clamped}
use Rattle.text_core.specs.Starts.{line_starts}
use Rattle.text_core.specs.Positions.{ends_line, line_start, line_end, is_inside, past_units, in_line, after, place_of}
use Rattle.text_core.proofs.ColumnLemmas.{behind_column, front_column, line_column}
use Rattle.text_core.proofs.LineLemmas.{further}
use Rattle.text_core.proofs.MovedLemmas.{Splits, starts_up_to-count}
use Rattle.text_core.proofs.PlaceLemmas.{line_end-bounds, line_end-cases, option_cases}
use Rattle.text_core.proofs.StartLemmas.{further_some, line-past, line-within, line_start-next, line_start-within, none_some, some_inj, starts-know}
use Rattle.text_core.proofs.UnitLemmas.{units_of_part}

pub count_yes : (b : ℕ) (rest : List ℕ) → ends_line b ≡ true → count_by ends_line (b ∷ rest) ≡ suc (count_by ends_line rest)
count_yes b rest t =
    let one : ◌≡◌ {A = ℕ} (cond (ends_line b) 1 0) 1 = cond-true _ _ _ t in
    omega (arith, sum_by-cons (λ x. cond (ends_line x) 1 0) b rest, one)

pub count_no : (b : ℕ) (rest : List ℕ) → ends_line b ≡ false → count_by ends_line (b ∷ rest) ≡ count_by ends_line rest
count_no b rest f =
    let none : ◌≡◌ {A = ℕ} (cond (ends_line b) 1 0) 0 = cond-false _ _ _ f in
    omega (arith, sum_by-cons (λ x. cond (ends_line x) 1 0) b rest, none)

-- after an LF the next line begins
line_after : (text : List ℕ) (n : ℕ) → n < length text → ends_line (get_or text n 0) ≡ true
    → line_start (suc (count_by ends_line (take n text))) text ≡ Some (suc n)
line_after [] n here t = absurd (omega arith)
line_after (b ∷ rest) zero here t = ap (further 1) (cond-true _ _ _ t)
line_after (b ∷ rest) (suc n) here t =
    let later = line_after rest n (omega arith) t in
    ⊎_elim
    (λ e. ap (λ k. line_start (suc k) (b ∷ rest)) (count_yes b (take n rest) e) ∙ ap (further 1) (cond-true _ _ _ e ∙ later) ∙ ap Some (omega arith))
    (λ e. ap (λ k. line_start (suc k) (b ∷ rest)) (count_no b (take n rest) e) ∙ ap (further 1) (cond-false _ _ _ e ∙ later) ∙ ap Some (omega arith))
    (cases_Bool (ends_line b))

-- how many bytes stand between the last LF before a place and the place
pub since : List ℕ → ℕ → ℕ
since text n = suffix_len (λ b. not (ends_line b)) (take n text)

since-within : (text : List ℕ) (n : ℕ) → since text n ≤ n
unfolding since
since-within text n = omega (arith, suffix_len-le-length (λ b. not (ends_line b)) (take n text), length-take n text)

-- the line at a place begins there
pub line_at : (text : List ℕ) (n : ℕ) → n ≤ length text → line_start (count_by ends_line (take n text)) text ≡ Some (n - since text n)
unfolding since
line_at text zero within = ap Some (omega arith)
line_at text (suc n) within =
    let next : n + 1 ≡ suc n = omega arith in
    let last : get_or text (suc n - 1) 0 ≡ get_or text n 0 = ap (λ k. get_or text k 0) (omega arith) in
    let fewer : take (suc n - 1) text ≡ take n text = ap (λ k. take k text) (omega arith) in
    let low = since-within text n in
    ⊎_elim
    (λ t.
    let count : count_by ends_line (take (suc n) text) ≡ suc (count_by ends_line (take n text)) =
    ap (λ k. count_by ends_line (take k text)) (sym next) ∙ count_by_more_yes ends_line text n 0 (omega arith) t ∙ omega arith in
    let none : suffix_len (λ b. not (ends_line b)) (take (suc n) text) ≡ 0 =
    suffix_len-take_no (λ b. not (ends_line b)) text (suc n) 0 (omega arith) within (ap (λ b. not (ends_line b)) last ∙ ap not t) in
    ap (λ k. line_start k text) count ∙ line_after text n (omega arith) t ∙ ap Some (omega (arith, none)))
    (λ f.
    let count : count_by ends_line (take (suc n) text) ≡ count_by ends_line (take n text) =
    ap (λ k. count_by ends_line (take k text)) (sym next) ∙ count_by_more_no ends_line text n 0 (omega arith) f in
    let more : suffix_len (λ b. not (ends_line b)) (take (suc n) text) ≡ 1 + suffix_len (λ b. not (ends_line b)) (take n text) =
    suffix_len-take_yes (λ b. not (ends_line b)) text (suc n) 0 (omega arith) within (ap (λ b. not (ends_line b)) last ∙ ap not f)
    ∙ ap (λ l. 1 + suffix_len (λ b. not (ends_line b)) l) fewer in
    ap (λ k. line_start k text) count ∙ line_at text n (omega arith) ∙ ap Some (omega (arith, more, low)))
    (cases_Bool (ends_line (get_or text n 0)))

-- and the next line begins behind it
next_past : (text : List ℕ) (n k : ℕ) → line_start (suc (count_by ends_line (take n text))) text ≡ Some k → n < k
next_past [] n k h = cc
next_past (b ∷ rest) zero k h = let here = further_some 1 _ k h in omega (arith, here.2)
next_past (b ∷ rest) (suc n) k h =
    ⊎_elim
    (λ t.
    let here = further_some 1 _ k (sym (ap (λ k. line_start (suc k) (b ∷ rest)) (count_yes b (take n rest) t)) ∙ h) in
    let later = next_past rest n here.0 (sym (cond-true _ _ _ t) ∙ here.1) in
    omega (arith, here.2, later))
    (λ f.
    let here = further_some 1 _ k (sym (ap (λ k. line_start (suc k) (b ∷ rest)) (count_no b (take n rest) f)) ∙ h) in
    let later = next_past rest n here.0 (sym (cond-false _ _ _ f) ∙ here.1) in
    omega (arith, here.2, later))
    (cases_Bool (ends_line b))

-- a place between the start of a line and that of the next is in that line
pub line_count : (line : ℕ) (text : List ℕ) (start n : ℕ) → line_start line text ≡ Some start → start ≤ n → n ≤ length text
    → ((k : ℕ) → line_start (suc line) text ≡ Some k → n < k) → count_by ends_line (take n text) ≡ line
line_count zero text start zero h low within before = refl
line_count zero [] start (suc n) h low within before = absurd (omega arith)
line_count zero (b ∷ rest) start (suc n) h low within before =
    ⊎_elim
    (λ t. let past = before 1 (ap (further 1) (cond-true _ _ _ t)) in absurd (omega arith))
    (λ f.
    count_no b (take n rest) f
    ∙ line_count zero rest 0 n refl (omega arith) (omega arith) (λ k is. let past = before (1 + k) (ap (further 1) (cond-false _ _ _ f ∙ is)) in omega arith))
    (cases_Bool (ends_line b))
line_count (suc line) [] start n h low within before = cc
line_count (suc line) (b ∷ rest) start zero h low within before = let here = further_some 1 _ start h in absurd (omega (arith, here.2))
line_count (suc line) (b ∷ rest) start (suc n) h low within before =
    let here = further_some 1 _ start h in
    ⊎_elim
    (λ t.
    count_yes b (take n rest) t
    ∙ ap (λ k. suc k) (line_count line rest here.0 n (sym (cond-true _ _ _ t) ∙ here.1) (omega (arith, here.2)) (omega arith)
    (λ k is. let past = before (1 + k) (ap (further 1) (cond-true _ _ _ t ∙ is)) in omega arith)))
    (λ f.
    count_no b (take n rest) f
    ∙ line_count (suc line) rest here.0 n (sym (cond-false _ _ _ f) ∙ here.1) (omega (arith, here.2)) (omega arith)
    (λ k is. let past = before (1 + k) (ap (further 1) (cond-false _ _ _ f ∙ is)) in omega arith))
    (cases_Bool (ends_line b))

-- what stands between the start of a line and a place of it
pub front_of : (text : List ℕ) (n : ℕ) → n ≤ length text → after_last ends_line (take n text) ≡ slice_range text (n - since text n) n
unfolding since
front_of text n within =
    let size : length (take n text) ≡ n = omega (arith, length-take n text) in
    let low = since-within text n in
    let whole : n - suffix_len (λ b. not (ends_line b)) (take n text) + (n - (n - suffix_len (λ b. not (ends_line b)) (take n text))) ≡ n = omega (arith, low) in
    ap (λ k. drop (k - suffix_len (λ b. not (ends_line b)) (take n text)) (take n text)) size
    ∙ ap (λ k. drop (n - suffix_len (λ b. not (ends_line b)) (take n text)) (take k text)) (sym whole)
    ∙ drop-take (n - suffix_len (λ b. not (ends_line b)) (take n text)) (n - (n - suffix_len (λ b. not (ends_line b)) (take n text))) text

-- a place in a line has the line's number, and the units from its start on
pub position_in : (e : PositionEncoding) (line : ℕ) (text : List ℕ) (start n : ℕ) → line_start line text ≡ Some start → start ≤ n → n ≤ length text
    → ((k : ℕ) → line_start (suc line) text ≡ Some k → n < k)
    → position_of e text n ≡ record { line = line; character = units_of e (slice_range text start n) }
position_in e line text start n h low within before =
    let number = line_count line text start n h low within before in
    let begins : n - since text n ≡ start = some_inj _ _ (sym (line_at text n within) ∙ ap (λ k. line_start k text) number ∙ h) in
    let column : units_of e (after_last ends_line (take n text)) ≡ units_of e (slice_range text start n) =
    ap (units_of e) (front_of text n within ∙ ap (λ k. slice_range text k n) begins) in
    λ j. record { line = number j; character = column j }

-- what follows a place between whole characters is none's inside
leader : (b : ℕ) → (128 ≤ b → 192 ≤ b) → is_inside b ≡ false
leader b h =
    elim (cases_lt b 128) [
      | inl low ↦ grind (arith, nat_tests)
      | inr high ↦ let above = h high in grind (arith, nat_tests)
    ]

-- the place of a place's position is that place
pub place_of_position : (e : PositionEncoding) (text : List ℕ) (n : ℕ) → IsCharBoundary text n → place_of e text (position_of e text n) ≡ Ok n
place_of_position e text n is =
    let line = count_by ends_line (take n text) in
    let start = n - since text n in
    let stop = line_end line text in
    let bounds : (n ≤ stop) × (stop ≤ length text) = ends in
    let size : length (slice_range text start stop) ≡ stop - start =
    length-take (stop - start) (drop start text) ∙ omega (arith, length-drop start text, bounds.0, bounds.1) in
    let front : units_of e (after_last ends_line (take n text)) ≡ units_of e (take (n - start) (slice_range text start stop)) =
    ap (units_of e) (front_of text n is.0 ∙ sym (take-take (n - start) (stop - start) (drop start text) (omega (arith, bounds.0)))) in
    let column : past_units e (units_of e (after_last ends_line (take n text))) (slice_range text start stop) ≡ Some (n - start) =
    ap (λ k. past_units e k (slice_range text start stop)) front
    ∙ front_column e (slice_range text start stop) (n - start) (omega (arith, size, bounds.0)) (whole size) in
    ap (in_line e text (position_of e text n)) (line_at text n is.0) ∙ ap (after start) column ∙ ap Ok (omega (arith, since-within text n))
  where
    ends : (n ≤ line_end (count_by ends_line (take n text)) text) × (line_end (count_by ends_line (take n text)) text ≤ length text)
    ends = ⊎_elim
        (λ next.
        let past = next_past text n next.0 next.1 in
        let in_text = line_start-within (suc (count_by ends_line (take n text))) text next.0 next.1 in
        (omega (arith, next.2), omega (arith, next.2)))
        (λ last. (omega (arith, last, is.0), omega (arith, last)))
        (line_end-cases (count_by ends_line (take n text)) text)

    whole : length (slice_range text (n - since text n) (line_end (count_by ends_line (take n text)) text)) ≡ line_end (count_by ends_line (take n text)) text - (n - since text n)
        → n - (n - since text n) < length (slice_range text (n - since text n) (line_end (count_by ends_line (take n text)) text))
        → is_inside (get_or (slice_range text (n - since text n) (line_end (count_by ends_line (take n text)) text)) (n - (n - since text n)) 0) ≡ false
    whole size here =
        let start = n - since text n in
        let stop = line_end (count_by ends_line (take n text)) text in
        let place : start + (n - start) ≡ n = omega (arith, since-within text n) in
        let byte : get_or (slice_range text start stop) (n - start) 0 ≡ get_or text n 0 =
        get_or-take (stop - start) (drop start text) (n - start) 0 (omega (arith, size)) ∙ get_or-drop start text (n - start) 0 ∙ ap (λ k. get_or text k 0) place in
        ap is_inside byte ∙ leader (get_or text n 0) (is.1 (omega (arith, size, ends.0, ends.1, since-within text n)))

-- a place between whole characters
pub split_whole : (text : List ℕ) (n : ℕ) → IsUtf8 text → IsSplitPoint text n → IsCharBoundary text n
split_whole text zero utf8 is = IsCharBoundary-start text utf8
split_whole text (suc n) utf8 is = (is.0, λ within. is.1 (omega arith) within)

-- what a search in the starts of lines finds at a place
pub record Found (text starts : List ℕ) (place n : ℕ) : Type 0 where
  pub counts : n ≡ count_by ends_line (take place text) + 1
  pub within : n - 1 < length starts
  pub begins : get_or starts (n - 1) 0 ≡ place - since text place
  pub low : get_or starts (n - 1) 0 ≤ place

pub found : (text starts : List ℕ) (place n : ℕ) → place ≤ length text → starts ≡ line_starts text → Splits starts place n → Found text starts place n
found text starts place n within all splits =
    let counts = starts_up_to-count text starts place n within all splits in
    let number : n - 1 ≡ count_by ends_line (take place text) = omega (arith, counts) in
    let here : slice_get starts (n - 1) ≡ Some (place - since text place) =
    ap (slice_get starts) number ∙ starts-know starts text all (count_by ends_line (take place text)) ∙ line_at text place within in
    let begins = get_or_from_slice_get starts (n - 1) (place - since text place) 0 here in
    record {
      counts = counts;
      within = slice_get_within starts (n - 1) (place - since text place) here;
      begins = begins;
      low = omega (arith, begins);
    }

-- no more lines begin before a place than bytes stand there
pub lines_fit : (text : List ℕ) (place : ℕ) → count_by ends_line (take place text) ≤ place
lines_fit text place = omega (arith, count_by-le-length ends_line (take place text), length-take place text)

-- the units before a place fit, as the bytes do
pub column_fits : (e : PositionEncoding) (text bytes starts : List ℕ) (place n : ℕ) → bytes ≡ text → IsUtf8 text → length text < 4294967296
    → units_of e (take (place - get_or starts (n - 1) 0) (drop (get_or starts (n - 1) 0) bytes)) < 4294967296
column_fits e text bytes starts place n same utf8 small =
    let start = get_or starts (n - 1) 0 in
    omega (arith, ap (λ l. units_of e (take (place - start) (drop start l))) same, units_of_part e text start place utf8)

pub position_found : (e : PositionEncoding) (text bytes starts : List ℕ) (place n column : ℕ) → bytes ≡ text → place ≤ length text → Found text starts place n
    → column ≡ units_of e (take (place - get_or starts (n - 1) 0) (drop (get_or starts (n - 1) 0) bytes))
    → record { line = n - 1; character = column } ≡ position_of e text place
position_found e text bytes starts place n column same within at h =
    let line : n - 1 ≡ count_by ends_line (take place text) = omega (arith, at.counts) in
    let start = get_or starts (n - 1) 0 in
    let character : column ≡ units_of e (after_last ends_line (take place text)) =
    h ∙ ap (λ l. units_of e (slice_range l start place)) same ∙ ap (λ k. units_of e (slice_range text k place)) at.begins
    ∙ ap (units_of e) (sym (front_of text place within)) in
    λ j. record { line = line j; character = character j }

-- a line that begins has its bytes up to its end
pub line_bytes : (text : List ℕ) (line start : ℕ) → line_start line text ≡ Some start → line_of text line ≡ slice_range text start (line_end line text)
line_bytes text line start h = ap (λ o. bytes_in text (option_map (λ n. (n, line_end line text)) o)) h

pub line_end-next : (text : List ℕ) (line k : ℕ) → line_start (suc line) text ≡ Some k → line_end line text ≡ k
line_end-next text line k h = ap (λ o. unwrap_or o (length text)) (ap (λ n. line_start n text) (add-one line) ∙ h)

pub line_end-last : (text : List ℕ) (line : ℕ) → line_start (suc line) text ≡ None → line_end line text ≡ length text
line_end-last text line h = ap (λ o. unwrap_or o (length text)) (ap (λ n. line_start n text) (add-one line) ∙ h)

pub begins-count : (text : List ℕ) (line k : ℕ) → line_start line text ≡ Some k → line ≤ count_by ends_line text
begins-count text line k h = line-within line text k (line_end line text) (ap (option_map (λ n. (n, line_end line text))) h)

pub past-count : (text : List ℕ) (line : ℕ) → line_start line text ≡ None → count_by ends_line text < line
past-count text line h = line-past line text (ap (option_map (λ n. (n, line_end line text))) h)

ok_inj : (x y : ℕ) → ◌≡◌ {A = Result ℕ OffsetFault} (Ok x) (Ok y) → x ≡ y
ok_inj x y p = cc

no_place : (fault : OffsetFault) (y : ℕ) → ◌≡◌ {A = Result ℕ OffsetFault} (Err fault) (Ok y) → ⊥
no_place fault y p = cc

-- a column behind the end of a line: the start of the next, or the end of the last
at_end : (e : PositionEncoding) (text : List ℕ) (line start n : ℕ) → line_start line text ≡ Some start → n ≡ line_end line text → start ≤ n
    → position_of e text n ≡ end_of e text line
at_end e text line start n begins end low =
    ⊎_elim
    (λ next.
    let stop : next.0 ≡ n = sym (end ∙ line_end-next text line next.0 next.1) in
    let fits = line_start-within (suc line) text next.0 next.1 in
    let more = begins-count text (suc line) next.0 next.1 in
    let gone : next.0 - next.0 ≡ 0 = omega arith in
    let none : slice_range text next.0 next.0 ≡ [] = ap (λ k. take k (drop next.0 text)) gone in
    let column : units_of e (slice_range text next.0 next.0) ≡ 0 = ap (units_of e) none in
    let number : suc line ≡ line + 1 = omega arith in
    let here = position_in e (suc line) text next.0 next.0 next.1 (omega arith) fits
    (λ k is. omega (arith, line_start-next (suc line) text next.0 k next.1 is)) in
    ap (position_of e text) (sym stop) ∙ here ∙ (λ j. record { line = number j; character = column j })
    ∙ sym (cond-true _ _ _ (lt-ltb line (count_by ends_line text) (omega arith))))
    (λ last.
    let stop : length text ≡ n = sym (end ∙ line_end-last text line last) in
    let all = past-count text (suc line) last in
    let here = position_in e line text start n begins low (omega arith) (λ k is. absurd (none_some k (sym last ∙ is))) in
    let bytes : slice_range text start n ≡ line_of text line = ap (slice_range text start) end ∙ sym (line_bytes text line start begins) in
    let column : units_of e (slice_range text start n) ≡ units_of e (line_of text line) = ap (units_of e) bytes in
    here ∙ (λ j. record { line = line; character = column j }) ∙ sym (cond-false _ _ _ (le-ltb line (count_by ends_line text) (omega arith))))
    (option_cases (line_start (suc line) text))

-- a column of a line
in_column : (e : PositionEncoding) (text : List ℕ) (position : Position) (start m n : ℕ) → line_start position.line text ≡ Some start
    → past_units e position.character (slice_range text start (line_end position.line text)) ≡ Some m → start + m ≡ n → position_of e text n ≡ clamped e text position
in_column e text position start m n begins past sum =
    let stop = line_end position.line text in
    let line = slice_range text start stop in
    let bytes : line_of text position.line ≡ line = line_bytes text position.line start begins in
    let bounds = line_end-bounds position.line text start begins in
    let size : length line ≡ stop - start = length-take (stop - start) (drop start text) ∙ omega (arith, length-drop start text, bounds.0, bounds.1) in
    let units : units_of e (line_of text position.line) ≡ units_of e line = ap (units_of e) bytes in
    elim (cases_lt position.character (units_of e (line_of text position.line))) [
      | inl short ↦ elim (behind_column e position.character line m past) [
        | inl front ↦
            let here = position_in e position.line text start n begins (omega arith) (omega (arith, front.0, size, bounds.0, bounds.1))
            (λ k is. omega (arith, front.0, size, bounds.0, line_end-next text position.line k is)) in
            let gone : n - start ≡ m = omega arith in
            let same : slice_range text start n ≡ take m line =
            ap (λ k. take k (drop start text)) gone ∙ sym (take-take m (stop - start) (drop start text) (omega (arith, front.0, size))) in
            let column : units_of e (slice_range text start n) ≡ position.character = ap (units_of e) same ∙ front.1 in
            here ∙ (λ j. record { line = position.line; character = column j }) ∙ sym (cond-true _ _ _ (lt-ltb _ _ short))
        | inr whole ↦ absurd (omega (arith, units, short, whole.1))
      ]
      | inr long ↦
          let whole : m ≡ length line = some_inj _ _ (sym past ∙ line_column e position.character line (omega (arith, units))) in
          at_end e text position.line start n begins (omega (arith, size, bounds.0)) (omega arith) ∙ sym (cond-false _ _ _ (le-ltb _ _ long))
    ]

-- the position of a position's place is that position, or the end of its line
pub position_of_place : (e : PositionEncoding) (text : List ℕ) (position : Position) (n : ℕ) → place_of e text position ≡ Ok n → position_of e text n ≡ clamped e text position
position_of_place e text position n h =
    ⊎_elim
    (λ begins.
    let placed : after begins.0 (past_units e position.character (slice_range text begins.0 (line_end position.line text))) ≡ Ok n =
    sym (ap (in_line e text position) begins.1) ∙ h in
    ⊎_elim
    (λ past. in_column e text position begins.0 past.0 n begins.1 past.1 (ok_inj _ _ (sym (ap (after begins.0) past.1) ∙ placed)))
    (λ inside. absurd (no_place InsideCharacter n (sym (ap (after begins.0) inside) ∙ placed)))
    (option_cases (past_units e position.character (slice_range text begins.0 (line_end position.line text)))))
    (λ none. absurd (no_place LinePastEnd n (sym (ap (in_line e text position) none) ∙ h)))
    (option_cases (line_start position.line text))
