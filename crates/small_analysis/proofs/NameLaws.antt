-- A run of word bytes is maximal, and no other is.
use Rattle.std.proofs.Common.{◌≡◌, ℕ, ◌-◌, ◌<◌, ◌≤◌, inl, inr, false, List, length, take, drop, reverse, get_or, ap, sym, ◌∙◌, arith}
use Rattle.std.specs.Prelude.{slice_range}
use Rattle.std.specs.List.{prefix_len, suffix_len}
use Rattle.std.proofs.lemmas.Bool.{cases_lt, false≢true}
use Rattle.std.proofs.lemmas.List.{length-take, length-drop, length-reverse, get_or-take, get_or-drop, get_or-reverse}
use Rattle.std.proofs.lemmas.List.Sums.{prefix_len-le-length, prefix_len_stops}
use Rattle.small_analysis.specs.Names.{is_word_byte, name_at, name_of, named, run_start, run_end, IsRunAt}
use Rattle.small_analysis.proofs.RunLemmas.{run_words}

-- a run can't be made longer: what stands before it is no word byte
run_stops_before : (text : List ℕ) (offset : ℕ) → offset ≤ length text → 0 < run_start text offset → is_word_byte (get_or text (run_start text offset - 1) 0) ≡ false
run_stops_before text offset within some =
    let run = suffix_len is_word_byte (take offset text) in
    let front : length (take offset text) ≡ offset = omega (arith, length-take offset text) in
    let stops = prefix_len_stops is_word_byte (reverse (take offset text)) 0 (omega (arith, length-reverse (take offset text))) in
    let turned : get_or (reverse (take offset text)) run 0 ≡ get_or (take offset text) (run_start text offset - 1) 0 =
    get_or-reverse (take offset text) run 0 (omega arith) ∙ ap (λ n. get_or (take offset text) n 0) (omega arith) in
    ap is_word_byte (sym (turned ∙ get_or-take offset text (run_start text offset - 1) 0 (omega arith))) ∙ stops

-- and so is what stands after it
run_stops_after : (text : List ℕ) (offset : ℕ) → run_end text offset < length text → is_word_byte (get_or text (run_end text offset) 0) ≡ false
run_stops_after text offset some =
    ap is_word_byte (sym (get_or-drop offset text (prefix_len is_word_byte (drop offset text)) 0))
    ∙ prefix_len_stops is_word_byte (drop offset text) 0 (omega (arith, length-drop offset text))

end_within : (text : List ℕ) (place : ℕ) → place ≤ length text → run_end text place ≤ length text
end_within text place within = omega (arith, prefix_len-le-length is_word_byte (drop place text), length-drop place text)

its_run : (text : List ℕ) (place : ℕ) → place ≤ length text → IsRunAt text place (run_start text place) (run_end text place)
its_run text place within = record {
  holds = omega arith;
  reaches = omega arith;
  within = end_within text place within;
  words = λ k from to. run_words text place k within from to;
  before = run_stops_before text place within;
  after = run_stops_after text place;
}

pub some_run : (text : List ℕ) (place : ℕ) → place ≤ length text → (from : ℕ) × ((to : ℕ) × IsRunAt text place from to)
some_run text place within = (run_start text place, (run_end text place, its_run text place within))

-- of two runs at a place neither begins before the other, and neither ends after it
module _ (text : List ℕ) (place from to low high : ℕ) (this : IsRunAt text place from to) (that : IsRunAt text place low high) where
  begins : from ≤ low
  begins = elim (cases_lt low from) [
    | inl before ↦
        let word = that.words (from - 1) (omega (arith, before)) (omega (arith, before, this.holds, that.reaches)) in
        absurd (false≢true (sym (this.before (omega (arith, before))) ∙ word))
    | inr not_before ↦ not_before
  ]

  ends : high ≤ to
  ends = elim (cases_lt to high) [
    | inl after ↦
        let word = that.words to (omega (arith, this.reaches, that.holds)) after in
        absurd (false≢true (sym (this.after (omega (arith, after, that.within))) ∙ word))
    | inr not_after ↦ not_after
  ]

pub only_name : (text : List ℕ) (place from to : ℕ) → IsRunAt text place from to → name_at text place ≡ name_of text from to
only_name text place from to run =
    let its = its_run text place (omega (arith, run.reaches, run.within)) in
    let start : run_start text place ≡ from =
    omega (arith, begins text place from to (run_start text place) (run_end text place) run its, begins text place (run_start text place) (run_end text place) from to its run) in
    let end : run_end text place ≡ to =
    omega (arith, ends text place from to (run_start text place) (run_end text place) run its, ends text place (run_start text place) (run_end text place) from to its run) in
    ap (λ n. named (slice_range text n (run_end text place))) start ∙ ap (λ n. named (slice_range text from n)) end
