-- An index that is kept over an edit.
use Rattle.std.proofs.Common.{◌≡◌, ℕ, zero, suc, ◌+◌, ◌-◌, ◌<◌, ◌≤◌, Bool, false, List, [], ◌∷◌, ◌++◌, length, take, drop, Option, Some, None, Result, Ok, Err, refl, ap, sym, subst, ◌∙◌, arith, max, inl, inr}
use Rattle.std.specs.Prelude.{IfOk, IfSome, slice_range, unwrap_or}
use Rattle.std.specs.String.Boundary.{IsSplitPoint}
use Rattle.std.specs.List.{replace_range}
use Rattle.std.proofs.lemmas.Bool.Decides.{nat_tests}
use Rattle.std.proofs.lemmas.Bool.{cases_lt, cond-true, cond-false, lt-ltb, le-leb, le-ltb}
use Rattle.std.proofs.lemmas.List.{length-take, take-append-drop}
use Rattle.text_core.specs.declared.position.PositionEncoding.{PositionEncoding}
use Rattle.text_core.specs.declared.position.Position.{Position}
use Rattle.text_core.specs.declared.position.Range.{Range}
use Rattle.text_core.specs.declared.position.OffsetFault.{OffsetFault}
use Rattle.text_core.specs.declared.position.OffsetFault.TheVariants.{Reversed}
use Rattle.text_core.specs.declared.splices.Splice.{Splice}
use Rattle.text_core.specs.Positions.{line_start, line_end, past_units, after, in_line, place_of, from_to, range_of}
use Rattle.text_core.specs.Changes.{edited, replaced}
use Rattle.text_core.specs.Rebuilds.{Progress, after_edit, is_past, lowered}
use Rattle.text_core.specs.Splices.{AreBehind, Fall, IsPart, lowest, spliced}
use Rattle.text_core.specs.Starts.{line_starts}
use Rattle.text_core.specs.IndexInvariant.{IsKept}
use Rattle.text_core.proofs.EndLemmas.{length_edit}
use Rattle.text_core.proofs.PlaceLemmas.{line_end-bounds, past-within}
use Rattle.text_core.proofs.SpliceLemmas.{HasFront, fall-push, front_part, has_front, lowest-push, spliced-push}
use Rattle.text_core.proofs.StartLemmas.{line_start-before, line_start-next, line_start-kept}

-- each line before one that begins, begins no later
lines_before : (line later : ℕ) (text : List ℕ) (k n : ℕ) → later ≡ line + n → line_start later text ≡ Some k → (j : ℕ) × (line_start line text ≡ Some j) × (j ≤ k)
lines_before line later text k zero same h = (k, ap (λ n. line_start n text) (omega arith) ∙ h, omega arith)
lines_before line zero text k (suc n) same h = absurd (omega arith)
lines_before line (suc later) text k (suc n) same h =
    let one = line_start-before later text k h in
    let low = line_start-next later text one.0 k one.1 h in
    let more = lines_before line later text one.0 n (omega arith) one.1 in
    (more.0, more.1, omega (arith, more.2))

abbrev placed : ℕ → Result ℕ OffsetFault
placed n = Ok n

ok_inj : (x y : ℕ) → placed x ≡ placed y → x ≡ y
ok_inj x y p = cc

abbrev first_place : Result (ℕ × ℕ) OffsetFault → Result ℕ OffsetFault
first_place (Err fault) = Err fault
first_place (Ok places) = Ok places.0

abbrev last_place : Result (ℕ × ℕ) OffsetFault → Result ℕ OffsetFault
last_place (Err fault) = Err fault
last_place (Ok places) = Ok places.1

from_to-start : (start end : Result ℕ OffsetFault) (from to : ℕ) → from_to start end ≡ Ok (from, to) → start ≡ Ok from
from_to-start (Err fault) end from to h = cc
from_to-start (Ok a) (Err fault) from to h = cc
from_to-start (Ok a) (Ok b) from to h =
    elim (cases_lt b a) [
      | inl reversed ↦
          let fault : first_place (Err Reversed) ≡ first_place (Ok (from, to)) = ap first_place (sym (cond-true _ _ _ (lt-ltb _ _ reversed)) ∙ h) in cc
      | inr rising ↦ ap first_place (sym (cond-false _ _ _ (le-ltb _ _ rising)) ∙ h)
    ]

after-start : (start : ℕ) (past : Option ℕ) (place : ℕ) → after start past ≡ Ok place → start ≤ place
after-start start None place h = cc
after-start start (Some n) place h = let sum : start + n ≡ place = ok_inj _ _ h in omega arith

in_line-start : (e : PositionEncoding) (text : List ℕ) (position : Position) (begins : Option ℕ) (place : ℕ) → in_line e text position begins ≡ Ok place
    → (k : ℕ) × (begins ≡ Some k) × (k ≤ place)
in_line-start e text position None place h = cc
in_line-start e text position (Some k) place h =
    (k, refl, after-start k (past_units e position.character (slice_range text k (line_end position.line text))) place h)

from_to-end : (start end : Result ℕ OffsetFault) (from to : ℕ) → from_to start end ≡ Ok (from, to) → end ≡ Ok to
from_to-end (Err fault) end from to h = cc
from_to-end (Ok a) (Err fault) from to h = cc
from_to-end (Ok a) (Ok b) from to h =
    elim (cases_lt b a) [
      | inl reversed ↦
          let fault : first_place (Err Reversed) ≡ first_place (Ok (from, to)) = ap first_place (sym (cond-true _ _ _ (lt-ltb _ _ reversed)) ∙ h) in cc
      | inr rising ↦ ap last_place (sym (cond-false _ _ _ (le-ltb _ _ rising)) ∙ h)
    ]

-- a place stands at most at the end of its line
after-end : (start size : ℕ) (past : Option ℕ) (place : ℕ) → IfSome past (λ n. n ≤ size) → after start past ≡ Ok place → place ≤ start + size
after-end start size None place within h = cc
after-end start size (Some n) place within h = let sum : start + n ≡ place = ok_inj _ _ h in omega arith

in_line-end : (e : PositionEncoding) (text : List ℕ) (position : Position) (begins : Option ℕ) (place : ℕ) → line_start position.line text ≡ begins
    → in_line e text position begins ≡ Ok place → place ≤ line_end position.line text
in_line-end e text position None place same h = cc
in_line-end e text position (Some k) place same h =
    let line = slice_range text k (line_end position.line text) in
    let bounds = line_end-bounds position.line text k same in
    let within = past-within e position.character line (past_units e position.character line) refl in
    omega (arith, after-end k (length line) (past_units e position.character line) place within h, bounds.0, length-take (line_end position.line text - k) (drop k text))

-- lines of a text whose front is that of another
front_line : (text made : List ℕ) (place line last k : ℕ) → HasFront text made place → line ≤ last → line_start last text ≡ Some k → k ≤ place
    → line_start line made ≡ line_start line text
front_line text made place line last k front low h before =
    let here = lines_before line last text k (last - line) (omega arith) h in
    ap (line_start line) (sym (take-append-drop place made) ∙ ap (λ l. l ++ drop place made) front.same)
    ∙ line_start-kept line text (drop place made) place here.0 front.within_text here.1 (omega (arith, here.2)) ∙ sym here.1

record EndsBefore (text made : List ℕ) (line place : ℕ) : Type 0 where
  end : ℕ
  text_end : line_end line text ≡ end
  made_end : line_end line made ≡ end
  before : end ≤ place

ends_before : (text made : List ℕ) (place line last k : ℕ) → HasFront text made place → line < last → line_start last text ≡ Some k → k ≤ place
    → EndsBefore text made line place
ends_before text made place line last k front low h before =
    let next = lines_before (line + 1) last text k (last - (line + 1)) (omega arith) h in
    let same = front_line text made place (line + 1) last k front (omega arith) h before in
    record {
      end = next.0;
      text_end = ap (λ o. unwrap_or o (length text)) next.1;
      made_end = ap (λ o. unwrap_or o (length made)) (same ∙ next.1);
      before = omega (arith, next.2);
    }

-- a part of the front, also where it ends before it begins
front_range : (text made : List ℕ) (place start stop : ℕ) → HasFront text made place → stop ≤ place → slice_range made start stop ≡ slice_range text start stop
front_range text made place start stop front low =
    elim (cases_lt stop start) [
      | inl reversed ↦
          let none : stop - start ≡ 0 = omega arith in
          ap (λ n. take n (drop start made)) none ∙ sym (ap (λ n. take n (drop start text)) none)
      | inr rising ↦ front_part text made place start stop front low rising
    ]

in_line-front : (e : PositionEncoding) (text made : List ℕ) (position : Position) (place : ℕ) (begins : Option ℕ) → HasFront text made place
    → EndsBefore text made position.line place → in_line e made position begins ≡ in_line e text position begins
in_line-front e text made position place None front ends = refl
in_line-front e text made position place (Some start) front ends =
    ap (λ l. after start (past_units e position.character l))
    (ap (slice_range made start) ends.made_end ∙ front_range text made place start ends.end front ends.before ∙ sym (ap (slice_range text start) ends.text_end))

place_of-front : (e : PositionEncoding) (text made : List ℕ) (position : Position) (place last k : ℕ) → HasFront text made place → position.line < last
    → line_start last text ≡ Some k → k ≤ place → place_of e made position ≡ place_of e text position
place_of-front e text made position place last k front low h before =
    ap (in_line e made position) (front_line text made place position.line last k front (omega arith) h before)
    ∙ in_line-front e text made position place (line_start position.line text) front (ends_before text made place position.line last k front low h before)

-- the lines of a range that isn't past the least line are those of the text before the splices
past_both : (range : Range) (least : ℕ) → is_past range (Some least) ≡ false → (range.start.line < least) × (range.end.line < least)
past_both range least h = let above : max range.start.line range.end.line < least = grind (arith, nat_tests) in (omega arith, omega arith)

pub range_behind : (e : PositionEncoding) (text : List ℕ) (splices : List Splice) (least : Option ℕ) (range : Range) → Fall text (length text) splices
    → AreBehind text splices least → is_past range least ≡ false → range_of e (spliced text splices) range ≡ range_of e text range
range_behind e text splices None range falls behind h = ap (λ l. range_of e (spliced text l) range) behind
range_behind e text splices (Some least) range falls behind h =
    let front = has_front text splices falls in
    let lines = past_both range least h in
    let made = spliced text splices in
    let place = lowest (length text) splices in
    ap (λ p. from_to p (place_of e made range.end)) (place_of-front e text made range.start place least behind.0 front lines.0 behind.1 behind.2)
    ∙ ap (from_to (place_of e text range.start)) (place_of-front e text made range.end place least behind.0 front lines.1 behind.1 behind.2)

-- such a range ends at or before the last splice
pub range_below : (e : PositionEncoding) (text : List ℕ) (splices : List Splice) (least : Option ℕ) (range : Range) (from to : ℕ) → Fall text (length text) splices
    → AreBehind text splices least → is_past range least ≡ false → to ≤ length text → range_of e text range ≡ Ok (from, to) → to ≤ lowest (length text) splices
range_below e text splices None range from to falls behind h within places = omega (arith, ap (lowest (length text)) behind)
range_below e text splices (Some least) range from to falls behind h within places =
    let front = has_front text splices falls in
    let lines = past_both range least h in
    let ends = ends_before text (spliced text splices) (lowest (length text) splices) range.end.line least behind.0 front lines.1 behind.1 behind.2 in
    let low = in_line-end e text range.end (line_start range.end.line text) to refl (from_to-end (place_of e text range.start) (place_of e text range.end) from to places) in
    omega (arith, low, ends.text_end, ends.before)

pub kept-within : (text : List ℕ) (splices : List Splice) (size : ℕ) (starts : List ℕ) (least : Option ℕ) → IsKept text splices size starts least → lowest (length text) splices ≤ size
kept-within text splices size starts least kept = omega (arith, kept.counted, (has_front text splices kept.falls).within)

-- an edit more stands in front of the others
pub kept_edit : (e : PositionEncoding) (text : List ℕ) (splices : List Splice) (size : ℕ) (starts : List ℕ) (least : Option ℕ) (range : Range) (s : Splice)
    → IsKept text splices size starts least → is_past range least ≡ false → range_of e text range ≡ Ok (s.start, s.end)
    → IsPart text (lowest (length text) splices) s.start s.end
    → IsKept text (splices ++ s ∷ []) (size - (s.end - s.start) + length s.text.now) starts (Some range.start.line)
kept_edit e text splices size starts least range s kept before places part =
    let made = spliced text splices in
    let start = from_to-start (place_of e text range.start) (place_of e text range.end) s.start s.end places in
    let begins = in_line-start e text range.start (line_start range.start.line text) s.start start in
    let push = spliced-push text splices s in
    let within = kept-within text splices size starts least kept in
    let all = length_edit made s.text.now s.start s.end part.rising (omega (arith, part.below, within, kept.counted)) in
    record {
      counted = omega (arith, ap length push, all, kept.counted, part.rising, part.below, within);
      falls = fall-push text (length text) splices s kept.falls part;
      behind = (begins.0, begins.1, omega (arith, begins.2, lowest-push (length text) splices s));
      own_starts = kept.own_starts;
    }

-- what is known of the places of a range that isn't past the least line
pub part_below : (e : PositionEncoding) (text : List ℕ) (splices : List Splice) (least : Option ℕ) (range : Range) (r : Result (ℕ × ℕ) OffsetFault) → Fall text (length text) splices
    → AreBehind text splices least → is_past range least ≡ false → r ≡ range_of e text range → IfOk r (λ places. IsSplitPoint text places.0) → IfOk r (λ places. IsSplitPoint text places.1)
    → IfOk r (λ places. places.0 ≤ places.1) → IfOk r (λ places. IsPart text (lowest (length text) splices) places.0 places.1)
part_below e text splices least range (Err fault) falls behind h same start end rising = tt
part_below e text splices least range (Ok places) falls behind h same start end rising = record {
  rising = rising;
  below = range_below e text splices least range places.0 places.1 falls behind h end.0 (sym same);
  start_split = start;
  end_split = end;
}

-- an index of a text from which nothing was put off yet
pub kept_new : (text : List ℕ) (splices : List Splice) (size : ℕ) (starts : List ℕ) → splices ≡ [] → size ≡ length text → starts ≡ line_starts text → IsKept text splices size starts None
kept_new text splices size starts none counted all =
    let here : IsKept text [] size starts None = record {
      counted = counted;
      falls = tt;
      behind = refl;
      own_starts = all;
    } in
    subst (λ l. IsKept text l size starts None) (sym none) here

-- the progress that an edit makes
abbrev pub on_the_way : List ℕ → Option ℕ → Bool → ℕ → Progress
on_the_way text least skipped rebuilds = record { text = text; least = least; skipped = skipped; rebuilds = rebuilds }

lowered_to : (range : Range) (least : Option ℕ) → is_past range least ≡ false → lowered range.start.line least ≡ range.start.line
lowered_to range None h = refl
lowered_to range (Some least) h = let lines = past_both range least h in omega (arith, lines.0)

pub edit_progress : (e : PositionEncoding) (limit : ℕ) (text made new : List ℕ) (from to : ℕ) (range : Range) (least : Option ℕ) (skipped : Bool) (n : ℕ)
    → range_of e text range ≡ Ok (from, to) → made ≡ replace_range text from to new → length made ≤ limit → is_past range least ≡ false
    → on_the_way made (Some range.start.line) skipped n ≡ after_edit range.start.line (on_the_way text least skipped n) (edited e limit text range new)
edit_progress e limit text made new from to range least skipped n places same fits before =
    let p = on_the_way text least skipped n in
    let next = replace_range text from to new in
    let low : length next ≤ limit = omega (arith, ap length same) in
    ap (λ l. on_the_way made (Some l) skipped n) (sym (lowered_to range least before))
    ∙ ap (λ t. on_the_way t (Some (lowered range.start.line least)) skipped n) same
    ∙ sym (ap (λ r. after_edit range.start.line p (replaced limit text new r)) places ∙ ap (after_edit range.start.line p) (cond-true _ _ _ (le-leb _ _ low)))
