-- Where CR LF stand, and what is left without their CR.
use Rattle.std.proofs.Common.{◌≡◌, ◌≢◌, ℕ, zero, suc, ◌+◌, ◌<◌, ◌≤◌, Bool, true, false, ◌&&◌, ◌||◌, ◌==◌, List, [], ◌∷◌, ◌++◌, length, take, drop, get_or, Option, Some, None, refl, ap, sym, subst, ◌∙◌, arith, append_assoc, ⊎_elim}
use Rattle.std.specs.Prelude.{◌⊎◌, is_some, if◌then◌else◌}
use Rattle.memchr.specs.Find.{IsFirstByte, is_byte}
use Rattle.std.specs.Str.{IsUtf8}
use Rattle.std.proofs.lemmas.Bool.{cases_Bool, cond-true, cond-false, eq-eqb, ne_eqb, false≢true}
use Rattle.std.proofs.lemmas.Bool.Decides.{nat_tests}
use Rattle.std.proofs.lemmas.List.{at_drop_more, drop_all, take_all, length-drop, get_or-drop, get_or_default, drop-drop}
use Rattle.std.proofs.lemmas.List.Folds.{list_any_at, list_any_none}
use Rattle.std.proofs.lemmas.Str.{IsUtf8-append, IsUtf8-take, IsUtf8-drop, IsCharBoundary-before_ascii, IsCharBoundary-after_ascii}
use Rattle.text_core.specs.Positions.{ends_line}
use Rattle.text_core.specs.LineEnds.{begins_with_lf, is_crlf, normalized, crlf_place, has_cr}
use Rattle.text_core.proofs.LineLemmas.{further, further-zero}
use Rattle.text_core.proofs.StartLemmas.{further_some, some_inj}
use Rattle.text_core.proofs.PlaceLemmas.{option_cases}

pub further_sum : (i j : ℕ) (o : Option ℕ) → further i (further j o) ≡ further (i + j) o
further_sum i j None = refl
further_sum i j (Some n) = ap Some (omega arith)

and_first : (a b : Bool) → (a && b) ≡ true → a ≡ true
and_first true b h = refl
and_first false b h = h

and_second : (a b : Bool) → (a && b) ≡ true → b ≡ true
and_second true b h = h
and_second false b h = absurd (false≢true h)

and_not : (a b : Bool) → a ≡ false → (a && b) ≡ false
and_not true b h = absurd (false≢true (sym h))
and_not false b h = refl

and_both : (a b : Bool) → a ≡ true → b ≡ true → (a && b) ≡ true
and_both true b h g = g
and_both false b h g = absurd (false≢true h)

and_no : (a b : Bool) → b ≡ false → (a && b) ≡ false
and_no true b h = h
and_no false b h = refl

lf_has_byte : (rest : List ℕ) → begins_with_lf rest ≡ true → 0 < length rest
lf_has_byte [] h = absurd (false≢true h)
lf_has_byte (b ∷ rest) h = omega arith

-- what a found CR LF says
pub record Found (xs : List ℕ) (k : ℕ) : Type 0 where
  pub splits : normalized xs ≡ take k xs ++ normalized (drop (k + 1) xs)
  pub within : k + 1 < length xs
  pub cr : get_or xs k 0 ≡ 13

pub crlf_found : (xs : List ℕ) (k : ℕ) → crlf_place xs ≡ Some k → Found xs k
crlf_found [] k h = cc
crlf_found (b ∷ rest) k h = ⊎_elim
    (λ t.
    let first : 0 ≡ k = some_inj _ _ (sym (cond-true _ _ _ t) ∙ h) in
    subst (Found (b ∷ rest)) first (record {
      splits = cond-true _ _ _ t;
      within = omega (arith, lf_has_byte rest (and_second (b == 13) (begins_with_lf rest) t));
      cr = grind (arith, nat_tests, and_first (b == 13) (begins_with_lf rest) t);
    }))
    (λ f.
    let later = further_some 1 _ k (sym (cond-false _ _ _ f) ∙ h) in
    let rec = crlf_found rest later.0 later.1 in
    let next : suc later.0 ≡ k = omega (arith, later.2) in
    let step : suc (later.0 + 1) ≡ suc later.0 + 1 = omega arith in
    subst (Found (b ∷ rest)) next (record {
      splits = cond-false _ _ _ f ∙ ap (λ l. b ∷ l) rec.splits ∙ ap (λ n. (b ∷ take later.0 rest) ++ normalized (drop n (b ∷ rest))) step;
      within = omega (arith, rec.within);
      cr = rec.cr;
    }))
    (cases_Bool (is_crlf b rest))

further_none : (o : Option ℕ) → further 1 o ≡ None → o ≡ None
further_none None h = refl
further_none (Some n) h = cc

pub crlf_none : (xs : List ℕ) → crlf_place xs ≡ None → normalized xs ≡ xs
crlf_none [] h = refl
crlf_none (b ∷ rest) h = ⊎_elim
    (λ t. let some : Some 0 ≡ None = sym (cond-true _ _ _ t) ∙ h in cc)
    (λ f. cond-false _ _ _ f ∙ ap (λ l. b ∷ l) (crlf_none rest (further_none _ (sym (cond-false _ _ _ f) ∙ h))))
    (cases_Bool (is_crlf b rest))

-- bytes without CR are passed over
pub crlf_skip : (xs : List ℕ) (k : ℕ) → k ≤ length xs → ((j : ℕ) → j < k → get_or xs j 0 ≢ 13) → crlf_place xs ≡ further k (crlf_place (drop k xs))
crlf_skip xs zero within none = sym (further-zero (crlf_place xs))
crlf_skip [] (suc k) within none = absurd (omega arith)
crlf_skip (b ∷ rest) (suc k) within none =
    let other : is_crlf b rest ≡ false = and_not (b == 13) (begins_with_lf rest) (ne_eqb _ _ (none 0 (omega arith))) in
    let sum : 1 + k ≡ suc k = omega arith in
    cond-false _ _ _ other ∙ ap (further 1) (crlf_skip rest k (omega arith) (λ j lt. none (suc j) (omega arith)))
    ∙ further_sum 1 k (crlf_place (drop k rest)) ∙ ap (λ n. further n (crlf_place (drop k rest))) sum

lf_after : (xs : List ℕ) (i : ℕ) → i < length xs → begins_with_lf (drop i xs) ≡ ends_line (get_or xs i 0)
lf_after xs i here = at_drop_more begins_with_lf xs i 0 here

-- at a CR
pub crlf_here : (xs : List ℕ) (i : ℕ) → i + 1 < length xs → get_or xs i 0 ≡ 13 → get_or xs (i + 1) 0 ≡ 10 → crlf_place (drop i xs) ≡ Some 0
crlf_here xs i within cr lf =
    at_drop_more crlf_place xs i 0 (omega arith)
    ∙ cond-true _ _ _ (and_both _ _ (eq-eqb _ _ cr) (lf_after xs (i + 1) within ∙ eq-eqb _ _ lf))

pub crlf_other : (xs : List ℕ) (i : ℕ) → i + 1 < length xs → get_or xs (i + 1) 0 ≢ 10 → crlf_place (drop i xs) ≡ further 1 (crlf_place (drop (i + 1) xs))
crlf_other xs i within other =
    at_drop_more crlf_place xs i 0 (omega arith)
    ∙ cond-false _ _ _ (and_no (get_or xs i 0 == 13) _ (lf_after xs (i + 1) within ∙ ne_eqb _ _ other))

pub crlf_end : (xs : List ℕ) (i : ℕ) → i < length xs → length xs ≤ i + 1 → crlf_place (drop i xs) ≡ further 1 (crlf_place (drop (i + 1) xs))
crlf_end xs i here end =
    at_drop_more crlf_place xs i 0 here
    ∙ cond-false _ _ _ (and_no (get_or xs i 0 == 13) _ (ap begins_with_lf (drop_all (i + 1) xs end)))

-- the text without those CR is UTF-8 too
normalized_utf8 : (fuel : ℕ) (xs : List ℕ) → length xs ≤ fuel → IsUtf8 xs → IsUtf8 (normalized xs)
normalized_utf8 zero [] short utf8 = utf8
normalized_utf8 zero (b ∷ rest) short utf8 = absurd (omega arith)
normalized_utf8 (suc fuel) xs short utf8 = ⊎_elim
    (λ some.
    let found = crlf_found xs some.0 some.1 in
    let here : some.0 < length xs = omega (arith, found.within) in
    let ascii : get_or xs some.0 0 < 128 = omega (arith, found.cr) in
    let front = IsUtf8-take xs some.0 utf8 (IsCharBoundary-before_ascii xs some.0 here ascii) in
    let back = IsUtf8-drop xs (some.0 + 1) utf8 (IsCharBoundary-after_ascii xs some.0 utf8 here ascii) in
    let rest = normalized_utf8 fuel (drop (some.0 + 1) xs) (omega (arith, length-drop (some.0 + 1) xs)) back in
    subst IsUtf8 (sym found.splits) (IsUtf8-append _ _ front rest))
    (λ none. subst IsUtf8 (sym (crlf_none xs none)) utf8)
    (option_cases (crlf_place xs))

pub normalized-IsUtf8 : (xs : List ℕ) → IsUtf8 xs → IsUtf8 (normalized xs)
normalized-IsUtf8 xs utf8 = normalized_utf8 (length xs) xs (omega arith) utf8

-- the first CR from a place on
not_cr : (b : ℕ) → ¬ (is_byte 13 b ≡ true) → b ≢ 13
not_cr b other same = other (eq-eqb _ _ same)

record AtCr (xs : List ℕ) (from gap : ℕ) : Type 0 where
  within : from + gap < length xs
  cr : get_or xs (from + gap) 0 ≡ 13
  skips : crlf_place (drop from xs) ≡ further gap (crlf_place (drop (from + gap) xs))

at_cr : (xs : List ℕ) (from gap : ℕ) → IsFirstByte (is_byte 13) (drop from xs) (Some gap) → AtCr xs from gap
at_cr xs from gap first =
    let size = length-drop from xs in
    let within : from + gap < length xs = omega (arith, first.0.high) in
    record {
      within = within;
      cr = grind (arith, nat_tests, sym (get_or-drop from xs gap 0), first.1);
      skips =
          crlf_skip (drop from xs) gap (omega (arith, first.0.high)) (λ j lt. not_cr _ (first.0.before j (omega arith) lt))
          ∙ ap (λ l. further gap (crlf_place l)) (drop-drop gap from xs);
    }

pub no_cr : (xs : List ℕ) → IsFirstByte (is_byte 13) xs None → crlf_place xs ≡ None
no_cr xs none =
    crlf_skip xs (length xs) (omega arith) (λ j lt. not_cr _ (none j (omega arith) lt))
    ∙ ap (λ l. further (length xs) (crlf_place l)) (drop_all (length xs) xs (omega arith))

-- ---- CR alone

none_has : (xs : List ℕ) → IsFirstByte (is_byte 13) xs None → has_cr xs ≡ false
none_has xs none =
    list_any_none (λ b. b == 13) xs (λ k d lt. ne_eqb _ _ (λ same. none k (omega arith) lt (eq-eqb _ _ (get_or_default xs k 0 d lt ∙ same))))

pub has_cr_is : (xs : List ℕ) (found : Option ℕ) → IsFirstByte (is_byte 13) xs found → is_some found ≡ has_cr xs
has_cr_is xs None none = sym (none_has xs none)
has_cr_is xs (Some at) first = sym (list_any_at (λ b. b == 13) xs at 0 first.0.high first.1)

pub neither : (a b : Bool) → (a || b) ≡ false → (a ≡ false) × (b ≡ false)
neither true b e = absurd (false≢true (sym e))
neither false b e = (refl, e)

-- without a CR there is no CR LF
pub no_crlf : (text : List ℕ) → has_cr text ≡ false → crlf_place text ≡ None
no_crlf [] e = refl
no_crlf (b ∷ rest) e =
    let both = neither (b == 13) (has_cr rest) e in
    cond-false _ _ _ (and_not (b == 13) (begins_with_lf rest) both.0) ∙ ap (further 1) (no_crlf rest both.1)

-- the first CR is the first CR LF
pub place_here : (xs : List ℕ) (from gap : ℕ) → crlf_place xs ≡ further from (crlf_place (drop from xs)) → IsFirstByte (is_byte 13) (drop from xs) (Some gap)
    → from + gap + 1 < length xs → get_or xs (from + gap + 1) 0 ≡ 10 → crlf_place xs ≡ Some (from + gap)
place_here xs from gap so_far first within lf =
    let cr = at_cr xs from gap first in
    so_far ∙ ap (further from) (cr.skips ∙ ap (further gap) (crlf_here xs (from + gap) within cr.cr lf)) ∙ ap Some (omega arith)

-- or no CR LF begins before the byte after it
pub place_on : (xs : List ℕ) (from gap : ℕ) → crlf_place xs ≡ further from (crlf_place (drop from xs)) → IsFirstByte (is_byte 13) (drop from xs) (Some gap)
    → (length xs ≤ from + gap + 1) ⊎ ((from + gap + 1 < length xs) × (get_or xs (from + gap + 1) 0 ≢ 10))
    → (from + gap + 1 ≤ length xs) × (crlf_place xs ≡ further (from + gap + 1) (crlf_place (drop (from + gap + 1) xs)))
place_on xs from gap so_far first other =
    let cr = at_cr xs from gap first in
    let rest = crlf_place (drop (from + gap + 1) xs) in
    let pass : crlf_place (drop (from + gap) xs) ≡ further 1 rest = ⊎_elim
    (λ end. crlf_end xs (from + gap) cr.within end)
    (λ no. crlf_other xs (from + gap) no.0 no.1)
    other in (
      omega (arith, cr.within),
      so_far ∙ ap (further from) (cr.skips ∙ ap (further gap) pass) ∙ further_sum from gap (further 1 rest) ∙ further_sum (from + gap) 1 rest,
    )

-- a step that moves the bytes before a CR LF down
pub moved_on : (old bytes new : List ℕ) (read write gap : ℕ) → drop read bytes ≡ drop read old → crlf_place (drop read bytes) ≡ Some gap
    → take write bytes ++ normalized (drop read old) ≡ normalized old
    → take (write + gap) new ≡ take write bytes ++ take gap (drop read bytes)
    → take (write + gap) new ++ normalized (drop (read + (gap + 1)) old) ≡ normalized old
moved_on old bytes new read write gap rest place done front =
    let found = crlf_found (drop read bytes) gap place in
    ap (λ l. l ++ normalized (drop (read + (gap + 1)) old)) front
    ∙ append_assoc (take write bytes) (take gap (drop read bytes)) (normalized (drop (read + (gap + 1)) old))
    ∙ ap (λ l. take write bytes ++ (take gap (drop read bytes) ++ normalized l)) (sym (drop-drop (gap + 1) read old) ∙ ap (drop (gap + 1)) (sym rest))
    ∙ ap (λ l. take write bytes ++ l) (sym found.splits ∙ ap normalized rest)
    ∙ done

-- a CR LF was seen where a byte was passed
pub seen_on : (old bytes : List ℕ) (read gap : ℕ) → (0 < read → is_some (crlf_place old) ≡ true) → (read ≡ 0 → bytes ≡ old) → crlf_place (drop read bytes) ≡ Some gap
    → is_some (crlf_place old) ≡ true
seen_on old bytes zero gap seen none place = ap (λ l. is_some (crlf_place l)) (sym (none refl)) ∙ ap is_some place
seen_on old bytes (suc read) gap seen none place = seen (omega arith)

-- the last step, that moves what is left
pub moved_all : (old bytes new : List ℕ) (read write left : ℕ) → drop read bytes ≡ drop read old → crlf_place (drop read bytes) ≡ None
    → take write bytes ++ normalized (drop read old) ≡ normalized old → length bytes ≤ read + left
    → take (write + left) new ≡ take write bytes ++ take left (drop read bytes) → take (write + left) new ≡ normalized old
moved_all old bytes new read write left rest none done all front =
    let whole = take_all left (drop read bytes) (omega (arith, length-drop read bytes)) in
    let plain : drop read bytes ≡ normalized (drop read old) = sym (crlf_none (drop read bytes) none) ∙ ap normalized rest in
    front ∙ ap (λ l. take write bytes ++ l) (whole ∙ plain) ∙ done

-- nothing was passed
pub moved_none : (old bytes : List ℕ) (read : ℕ) → read ≡ 0 → bytes ≡ old → crlf_place (drop read bytes) ≡ None → crlf_place old ≡ None
moved_none old bytes read zero_read same none = sym (ap crlf_place same) ∙ ap (λ n. crlf_place (drop n bytes)) (sym zero_read) ∙ none

-- what stands after a CR is as before
pub rest_on : (old bytes new : List ℕ) (read gap : ℕ) → drop read bytes ≡ drop read old → drop (read + gap) new ≡ drop (read + gap) bytes
    → drop (read + (gap + 1)) new ≡ drop (read + (gap + 1)) old
rest_on old bytes new read gap rest moved =
    let sum : read + (gap + 1) ≡ read + gap + 1 = omega arith in
    ap (λ n. drop n new) sum ∙ sym (drop-drop 1 (read + gap) new) ∙ ap (drop 1) moved ∙ drop-drop 1 (read + gap) bytes ∙ ap (λ n. drop n bytes) (sym sum)
    ∙ sym (drop-drop (gap + 1) read bytes) ∙ ap (drop (gap + 1)) rest ∙ drop-drop (gap + 1) read old

len-if : (c : Bool) (b : ℕ) (xs ys : List ℕ) → length ys ≤ length xs → length (if c then ys else b ∷ ys) ≤ length (b ∷ xs)
len-if true b xs ys h = omega (arith, h)
len-if false b xs ys h = omega (arith, h)

-- a normalised text is no longer
pub normalized_len : (xs : List ℕ) → length (normalized xs) ≤ length xs
normalized_len [] = omega arith
normalized_len (b ∷ rest) = len-if (is_crlf b rest) b rest (normalized rest) (normalized_len rest)
