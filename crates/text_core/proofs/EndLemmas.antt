-- What edits leave in front of them and behind them.
use Rattle.std.proofs.Common.{◌≡◌, ℕ, ◌+◌, ◌-◌, ◌≤◌, List, ◌++◌, length, take, drop, min, ap, sym, ◌∙◌, arith}
use Rattle.std.specs.List.{replace_range}
use Rattle.std.proofs.lemmas.List.{take-take, take-append-le, drop-drop, length-take, length-drop, length-append}
use Rattle.text_core.specs.CommonEnds.{HasEnds}
use Rattle.text_core.specs.declared.ends.CommonEnds.{CommonEnds}
use Rattle.text_core.proofs.MovedLemmas.{between, parts, drop_front}

drop_past : (k : ℕ) (xs ys : List ℕ) → drop (length xs + k) (xs ++ ys) ≡ drop k ys
drop_past k xs ys = sym (drop-drop k (length xs) (xs ++ ys)) ∙ ap (drop k) (drop_front xs ys)

pub length_edit : (text new : List ℕ) (from to : ℕ) → from ≤ to → to ≤ length text → length (replace_range text from to new) ≡ from + length new + (length text - to)
length_edit text new from to rising within =
    length-append (take from text ++ new) (drop to text) ∙ omega (arith, length-append (take from text) new, length-take from text, length-drop to text)

pub front_same : (text new : List ℕ) (from to n : ℕ) → n ≤ from → from ≤ length text → take n (replace_range text from to new) ≡ take n text
front_same text new from to n low within =
    let size : length (take from text) ≡ from = omega (arith, length-take from text) in
    take-append-le n (take from text ++ new) (drop to text) (omega (arith, length-append (take from text) new))
    ∙ take-append-le n (take from text) new (omega arith) ∙ take-take n from text low

back_same : (text new : List ℕ) (from to n : ℕ) → from ≤ to → to ≤ length text → n ≤ length text - to
    → drop (length (replace_range text from to new) - n) (replace_range text from to new) ≡ drop (length text - n) text
back_same text new from to n rising within low =
    let size : length (take from text ++ new) ≡ from + length new = omega (arith, length-append (take from text) new, length-take from text) in
    let place : length (replace_range text from to new) - n ≡ length (take from text ++ new) + (length text - to - n) = omega (arith, length_edit text new from to rising within) in
    let sum : to + (length text - to - n) ≡ length text - n = omega arith in
    ap (λ k. drop k (replace_range text from to new)) place ∙ drop_past (length text - to - n) (take from text ++ new) (drop to text)
    ∙ drop-drop (length text - to - n) to text ∙ ap (λ k. drop k text) sum

-- fewer bytes of the same ends
fewer_back : (before text : List ℕ) (n m : ℕ) → m ≤ n → n ≤ length before → n ≤ length text → drop (length text - n) text ≡ drop (length before - n) before
    → drop (length text - m) text ≡ drop (length before - m) before
fewer_back before text n m low old new same =
    let here : length text - n + (n - m) ≡ length text - m = omega arith in
    let there : length before - n + (n - m) ≡ length before - m = omega arith in
    sym (drop-drop (n - m) (length text - n) text ∙ ap (λ k. drop k text) here) ∙ ap (drop (n - m)) same
    ∙ drop-drop (n - m) (length before - n) before ∙ ap (λ k. drop k before) there

abbrev pub both_ends : ℕ → ℕ → CommonEnds
both_ends front back = record { front = front; back = back }

pub ends-first : (before text new : List ℕ) (from to : ℕ) → text ≡ before → from ≤ to → to ≤ length text
    → HasEnds before (replace_range text from to new) (both_ends from (length text - to))
ends-first before text new from to same rising within =
    let size = ap length same in
    record {
      front = front_same text new from to from (omega arith) (omega arith) ∙ ap (take from) same;
      back = back_same text new from to (length text - to) rising within (omega arith) ∙ ap (λ l. drop (length l - (length text - to)) l) same;
      within = omega (arith, length_edit text new from to rising within);
      within_before = omega arith;
    }

pub ends-next : (before text new : List ℕ) (ends : CommonEnds) (from to front back : ℕ) → HasEnds before text ends → from ≤ to → to ≤ length text
    → front ≡ min ends.front from → back ≡ min ends.back (length text - to) → HasEnds before (replace_range text from to new) (both_ends front back)
ends-next before text new ends from to front back has rising within first last =
    let low : front ≤ from = omega arith in
    let less : front ≤ ends.front = omega arith in
    let short : back ≤ length text - to = omega arith in
    let fewer : back ≤ ends.back = omega arith in
    record {
      front = front_same text new from to front low (omega arith) ∙ sym (take-take front ends.front text less) ∙ ap (take front) has.front ∙ take-take front ends.front before less;
      back = back_same text new from to back rising within short ∙ fewer_back before text ends.back back fewer (omega (arith, has.within_before)) (omega (arith, has.within)) has.back;
      within = omega (arith, length_edit text new from to rising within);
      within_before = omega (arith, has.within_before);
    }

-- texts with the same ends are the same where they are between them
pub ends-same : (before text : List ℕ) (ends : CommonEnds) → HasEnds before text ends
    → between ends.front (length text - ends.back) text ≡ between ends.front (length before - ends.back) before → text ≡ before
ends-same before text ends has same =
    parts text ends.front (length text - ends.back) (omega (arith, has.within))
    ∙ ap (λ l. l ++ (between ends.front (length text - ends.back) text ++ drop (length text - ends.back) text)) has.front
    ∙ ap (λ l. take ends.front before ++ l) (ap (λ l. l ++ drop (length text - ends.back) text) same ∙ ap (λ l. between ends.front (length before - ends.back) before ++ l) has.back)
    ∙ sym (parts before ends.front (length before - ends.back) (omega (arith, has.within_before)))

pub same-ends : (before text : List ℕ) (ends : CommonEnds) → text ≡ before
    → between ends.front (length text - ends.back) text ≡ between ends.front (length before - ends.back) before
same-ends before text ends same = ap (λ l. between ends.front (length l - ends.back) l) same
