-- A run is of word bytes, and so it stands between whole characters.
use Rattle.std.proofs.Common.{◌≡◌, ℕ, zero, suc, inl, inr, ◌+◌, ◌-◌, ◌<◌, ◌≤◌, true, List, length, take, drop, reverse, get_or, ap, sym, ◌∙◌, subst, arith}
use Rattle.std.specs.List.{suffix_len}
use Rattle.std.specs.Str.{IsUtf8, IsCharBoundary}
use Rattle.std.proofs.lemmas.Bool.Decides.{nat_tests}
use Rattle.std.proofs.lemmas.List.Sums.{prefix_len_passes, prefix_len-le-length}
use Rattle.std.proofs.lemmas.List.{length-take, length-drop, get_or-take, get_or-drop, get_or-reverse}
use Rattle.std.proofs.lemmas.Bool.{cases_lt, false≢true}
use Rattle.std.proofs.lemmas.Str.{IsCharBoundary-before_ascii, IsCharBoundary-after_ascii}
use Rattle.small_analysis.specs.Names.{is_word_byte, run_start, run_end, run_at, is_name}

pub word_ascii : (b : ℕ) → is_word_byte b ≡ true → b < 128
word_ascii b h = grind (arith, nat_tests)

-- each byte of a run
pub run_words : (text : List ℕ) (offset k : ℕ) → offset ≤ length text → run_start text offset ≤ k → k < run_end text offset → is_word_byte (get_or text k 0) ≡ true
run_words text offset k within from to =
    elim (cases_lt k offset) [
      | inl before ↦
          let front : length (take offset text) ≡ offset = omega (arith, length-take offset text) in
          let place : offset - 1 - k < suffix_len is_word_byte (take offset text) = omega arith in
          let passes = prefix_len_passes is_word_byte (reverse (take offset text)) (offset - 1 - k) 0 place in
          let turned : get_or (reverse (take offset text)) (offset - 1 - k) 0 ≡ get_or (take offset text) k 0 =
          get_or-reverse (take offset text) (offset - 1 - k) 0 (omega arith) ∙ ap (λ n. get_or (take offset text) n 0) (omega arith) in
          ap is_word_byte (sym (turned ∙ get_or-take offset text k 0 before)) ∙ passes
      | inr after ↦
          let passes = prefix_len_passes is_word_byte (drop offset text) (k - offset) 0 (omega arith) in
          ap is_word_byte (sym (get_or-drop offset text (k - offset) 0 ∙ ap (λ n. get_or text n 0) (omega arith))) ∙ passes
    ]

pub name_has_byte : (n : ℕ) (text : List ℕ) → is_name (take n text) ≡ true → 0 < n
name_has_byte zero text h = absurd (false≢true h)
name_has_byte (suc n) text h = omega arith

-- a run that is a name begins and ends between two characters
pub name_begins : (text : List ℕ) (offset : ℕ) → offset ≤ length text → is_name (run_at text offset) ≡ true → IsCharBoundary text (run_start text offset)
name_begins text offset within h =
    let some = name_has_byte (run_end text offset - run_start text offset) (drop (run_start text offset) text) h in
    let short = prefix_len-le-length is_word_byte (drop offset text) in
    IsCharBoundary-before_ascii text (run_start text offset) (omega (arith, length-drop offset text))
    (word_ascii _ (run_words text offset (run_start text offset) within (omega arith) (omega arith)))

pub name_ends : (text : List ℕ) (offset : ℕ) → IsUtf8 text → offset ≤ length text → is_name (run_at text offset) ≡ true → IsCharBoundary text (run_end text offset)
name_ends text offset utf8 within h =
    let some = name_has_byte (run_end text offset - run_start text offset) (drop (run_start text offset) text) h in
    let short = prefix_len-le-length is_word_byte (drop offset text) in
    let last = IsCharBoundary-after_ascii text (run_end text offset - 1) utf8 (omega (arith, length-drop offset text))
    (word_ascii _ (run_words text offset (run_end text offset - 1) within (omega arith) (omega arith))) in
    let one : run_end text offset - 1 + 1 ≡ run_end text offset = omega arith in
    subst (IsCharBoundary text) one last
