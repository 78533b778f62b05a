-- What is found wrong, place by place, and that a text can be cut there.
use Rattle.std.proofs.Common.{◌≡◌, ℕ, suc, ◌+◌, ◌<◌, ◌≤◌, inl, inr, Bool, true, false, not, cond, List, [], ◌∷◌, length, set, replicate, refl, sym, ap, subst, ◌∙◌, arith, ◌&&◌, ◌++◌, eq-eqb}
use Rattle.std.specs.Prelude.{Option, None, Some, is_none, is_some, slice_index, slice_index_or, ◌==◌}
use Rattle.std.specs.FinMap as map
use Rattle.std.specs.Ordering.{nat_cmp}
use Rattle.std.specs.Str.{IsCharBoundary, IsUtf8}
use Rattle.std.specs.String.Boundary.{IsSplitPoint}
use Rattle.std.proofs.lemmas.Bool.{cases_lt, eqb-true, false≢true}
use Rattle.std.proofs.lemmas.Bool.Decides.{nat_tests}
use Rattle.std.proofs.lemmas.Grind.{common_steps}
use Rattle.std.proofs.lemmas.List.{get_or-replicate, get_or-set_other, get_or-set_same, get_or_past, length-replicate, length-set}
use Rattle.std.proofs.lemmas.Str.{IsCharBoundary-before_ascii, IsCharBoundary-after_ascii}
use Rattle.lsp_types.specs.declared.diagnostic.Diagnostic.{Diagnostic}
use Rattle.small_analysis.specs.Brackets.{Brackets, brackets_before, closes, is_bracket, is_bracket_at, is_opener, located, opener_of, openers_with, paired, partners_of, with_byte}
use Rattle.small_analysis.specs.Defined.{Names, defined_at, defined_before, with_name}
use Rattle.small_analysis.specs.Findings.{again_said, name_said, said_before}
use Rattle.small_analysis.specs.Names.{is_name, name_at, run_at, run_end, run_start}
use Rattle.small_analysis.specs.Unmatched.{HasMarks, MarksMatched, is_unmatched, pair_marked}
use Rattle.small_analysis.specs.declared.brackets.Bracket.{Bracket}
use Rattle.text_core.specs.declared.position.PositionEncoding.{PositionEncoding}
use Rattle.small_analysis.proofs.AskedLemmas.{at_place}
use Rattle.small_analysis.proofs.BracketLemmas.{brackets_more, opener_within}
use Rattle.small_analysis.proofs.RunLemmas.{name_begins, name_ends}

one_more : (n : ℕ) → suc n ≡ n + 1
one_more n = omega arith

-- ---- one place more

pub said_next : (said_at : ℕ → List Diagnostic) (n : ℕ) → said_before said_at (n + 1) ≡ said_before said_at n ++ said_at n
said_next said_at n = ap (said_before said_at) (sym (one_more n))

pub defined_next : (text : List ℕ) (n : ℕ) → defined_before text (n + 1) ≡ with_name (defined_at text n) (defined_before text n)
defined_next text n = ap (defined_before text) (sym (one_more n))

-- ---- brackets

bracket_ascii : (b : ℕ) → is_bracket b ≡ true → b < 128
bracket_ascii b h = grind (arith, nat_tests)

-- a bracket stands within the text
pub bracket_within : (text : List ℕ) (place : ℕ) → is_bracket_at text place ≡ true → place < length text
bracket_within text place is =
    elim (cases_lt place (length text)) [
      | inl within ↦ within
      | inr beyond ↦ grind (arith, common_steps)
    ]

splits : (text : List ℕ) (place : ℕ) → IsCharBoundary text place → IsSplitPoint text place
splits text place at = (at.0, λ positive within above. at.1 within above)

-- the text can be cut before it and behind it
pub bracket_begins : (text : List ℕ) (place : ℕ) → is_bracket_at text place ≡ true → IsSplitPoint text place
bracket_begins text place is =
    splits text place (IsCharBoundary-before_ascii text place (bracket_within text place is) (bracket_ascii _ is))

pub bracket_ends : (text : List ℕ) (place : ℕ) → IsUtf8 text → is_bracket_at text place ≡ true → IsSplitPoint text (place + 1)
bracket_ends text place utf8 is =
    splits text (place + 1) (IsCharBoundary-after_ascii text place utf8 (bracket_within text place is) (bracket_ascii _ is))

-- the opener that a byte closes, and the byte itself, have marks
pub pair_has_marks : (text : List ℕ) (n : ℕ) (opener : Option Bracket) (marks : List Bool) → n < length text → length marks ≡ length text
    → opener ≡ opener_of (located text n) (brackets_before text n).openers → HasMarks (located text n) opener marks
pair_has_marks text n None marks within size is = tt
pair_has_marks text n (Some opener) marks within size is =
    (omega (arith, within, size, opener_within text n opener (sym is)), omega (arith, within, size))

-- a mark that is set
marked_at : (marks : List Bool) (place q : ℕ) → place < length marks → slice_index_or (set marks place true) q false ≡ cond (q == place) true (slice_index_or marks q false)
marked_at marks place q within = by_place (q == place) refl
  where
    by_place : (b : Bool) → (q == place) ≡ b → slice_index_or (set marks place true) q false ≡ cond b true (slice_index_or marks q false)
    by_place true same = ap (λ r. slice_index_or (set marks place true) r false) (eqb-true q place same) ∙ get_or-set_same marks place true false within
    by_place false other = get_or-set_other marks place q true false (λ e. false≢true (sym other ∙ eq-eqb q place e))

partner_at : (partners : map.FinMap nat_cmp Bracket) (place q : ℕ) (partner : Bracket)
    → is_some (map.get (map.insert partners place partner) q) ≡ cond (q == place) true (is_some (map.get partners q))
partner_at partners place q partner = ap is_some (at_place partners place partner q) ∙ by_place (q == place)
  where
    by_place : (b : Bool) → is_some (cond b (Some partner) (map.get partners q)) ≡ cond b true (is_some (map.get partners q))
    by_place true = refl
    by_place false = refl

mark_more : (text : List ℕ) (partners : map.FinMap nat_cmp Bracket) (marks : List Bool) (place : ℕ) (partner : Bracket) → place < length marks
    → MarksMatched text partners marks → MarksMatched text (map.insert partners place partner) (set marks place true)
mark_more text partners marks place partner within old = record {
  length_is = length-set marks place true ∙ old.length_is;
  each = λ q. marked_at marks place q within ∙ ap (cond (q == place) true) (old.each q) ∙ sym (partner_at partners place q partner);
}

-- a bracket and the opener that it closes are marked, where they become partners
pub pair_matched : (text : List ℕ) (here : Bracket) (opener : Option Bracket) (partners : map.FinMap nat_cmp Bracket) (marks : List Bool) → HasMarks here opener marks
    → MarksMatched text partners marks → MarksMatched text (paired here opener partners) (pair_marked here opener marks)
pair_matched text here None partners marks has old = old
pair_matched text here (Some opener) partners marks has old =
    let one = mark_more text partners marks opener.place here has.0 old in
    mark_more text _ _ here.place opener (omega (arith, length-set marks opener.place true, has.1)) one

-- the stack and the marks behind so many bytes
pub record Marks (text : List ℕ) (n : ℕ) (stack : List Bracket) (given : List Bool) : Type 0 where
  pub openers : stack ≡ (brackets_before text n).openers
  pub marks : MarksMatched text (brackets_before text n).partners given

-- a byte that is no bracket changes nothing
other_byte : (text : List ℕ) (n : ℕ) → is_bracket (slice_index text n) ≡ false → brackets_before text (n + 1) ≡ brackets_before text n
other_byte text n none = brackets_more text n ∙ unchanged (brackets_before text n).openers
  where
    no_opener : is_opener (slice_index text n) ≡ false
    no_opener = grind (arith, nat_tests)

    closes_none : (top : ℕ) → closes top (slice_index text n) ≡ false
    closes_none top = grind (arith, nat_tests)

    unchanged : (openers : List Bracket) → with_byte (located text n) (record { openers = openers; partners = (brackets_before text n).partners })
        ≡ record { openers = openers; partners = (brackets_before text n).partners }
    unchanged [] = rw no_opener refl
    unchanged (top ∷ below) = rw (no_opener, closes_none top.byte) refl

pub marks_past : (text : List ℕ) (n : ℕ) (openers : List Bracket) (marks : List Bool) → is_bracket (slice_index text n) ≡ false
    → Marks text n openers marks → Marks text (n + 1) openers marks
marks_past text n openers marks none old =
    let same = sym (other_byte text n none) in
    record {
      openers = old.openers ∙ ap (λ (b : Brackets). b.openers) same;
      marks = subst (λ (b : Brackets). MarksMatched text b.partners marks) same old.marks;
    }

pub marks_first : (text : List ℕ) → Marks text 0 [] (replicate (length text) false)
marks_first text = record {
  openers = refl;
  marks = record { length_is = length-replicate (length text) false; each = λ q. unmarked q ∙ ap is_some (sym (map.get-empty nat_cmp q)) };
}
  where
    unmarked : (q : ℕ) → slice_index_or (replicate (length text) false) q false ≡ false
    unmarked q = elim (cases_lt q (length text)) [
      | inl within ↦ get_or-replicate (length text) q false false within
      | inr beyond ↦ get_or_past (replicate (length text) false) q false (omega (arith, length-replicate (length text) false, beyond))
    ]

pub marks_more : (text : List ℕ) (n : ℕ) (openers new : List Bracket) (opener : Option Bracket) (marks now : List Bool) → n < length text
    → Marks text n openers marks → new ≡ openers_with (located text n) openers → opener ≡ opener_of (located text n) openers
    → now ≡ pair_marked (located text n) opener marks → Marks text (n + 1) new now
marks_more text n openers new opener marks now within old new_is opener_is now_is =
    let all = brackets_before text n in
    let here = located text n in
    let its : opener ≡ opener_of here all.openers = opener_is ∙ ap (opener_of here) old.openers in
    let has = pair_has_marks text n opener marks within old.marks.length_is its in
    let more = brackets_more text n in
    record {
      openers = new_is ∙ ap (openers_with here) old.openers ∙ sym (ap (λ (b : Brackets). b.openers) more);
      marks =
          subst (λ (b : Brackets). MarksMatched text b.partners now) (sym more)
          (subst (MarksMatched text (paired here (opener_of here all.openers) all.partners)) (sym now_is)
          (subst (λ o. MarksMatched text (paired here o all.partners) (pair_marked here opener marks)) its
          (pair_matched text here opener all.partners marks has old.marks)));
    }

-- what has no partner is a bracket
pub unmatched_bracket : (text : List ℕ) (place : ℕ) → is_unmatched text place ≡ true → is_bracket_at text place ≡ true
unmatched_bracket text place is = by_here (is_bracket_at text place) is
  where
    by_here : (b : Bool) → (b && is_none (map.get (partners_of text) place)) ≡ true → b ≡ true
    by_here true h = refl
    by_here false h = h

-- by these marks a bracket is unmatched where it has none
pub unmatched_by : (text : List ℕ) (marks : List Bool) (place : ℕ) → MarksMatched text (partners_of text) marks
    → (is_bracket_at text place && not (slice_index_or marks place false)) ≡ is_unmatched text place
unmatched_by text marks place is = ap (λ b. is_bracket_at text place && not b) (is.each place) ∙ ap (λ b. is_bracket_at text place && b) (by_found (map.get (partners_of text) place))
  where
    by_found : (found : Option Bracket) → not (is_some found) ≡ is_none found
    by_found None = refl
    by_found (Some partner) = refl

-- ---- names

-- one place more, with the name that is defined there
pub named_next : (encoding : PositionEncoding) (text : List ℕ) (n : ℕ) (found : Option (List ℕ)) (list new : List Diagnostic) (names now : Names)
    → (list ≡ said_before (name_said encoding text) n) × (names ≡ defined_before text n) → found ≡ defined_at text n
    → new ≡ list ++ again_said encoding text n names found → now ≡ with_name found names
    → (new ≡ said_before (name_said encoding text) (n + 1)) × (now ≡ defined_before text (n + 1))
named_next encoding text n found list new names now before found_is new_is now_is = (
  new_is
      ∙ ap (λ l. l ++ again_said encoding text n names found) before.0
      ∙ ap (λ m. said_before (name_said encoding text) n ++ again_said encoding text n m found) before.1
      ∙ ap (λ f. said_before (name_said encoding text) n ++ again_said encoding text n (defined_before text n) f) found_is
      ∙ sym (said_next (name_said encoding text) n),
  now_is ∙ ap (with_name found) before.1 ∙ ap (λ f. with_name f (defined_before text n)) found_is ∙ sym (defined_next text n),
)

named_is : (text : List ℕ) (place : ℕ) (name : List ℕ) → name_at text place ≡ Some name → is_name (run_at text place) ≡ true
named_is text place name is = grind (arith, common_steps)

pub name_splits_begin : (text : List ℕ) (place : ℕ) (name : List ℕ) → place ≤ length text → name_at text place ≡ Some name
    → IsSplitPoint text (run_start text place)
name_splits_begin text place name within is =
    splits text (run_start text place) (name_begins text place within (named_is text place name is))

pub name_splits_end : (text : List ℕ) (place : ℕ) (name : List ℕ) → IsUtf8 text → place ≤ length text → name_at text place ≡ Some name
    → IsSplitPoint text (run_end text place)
name_splits_end text place name utf8 within is =
    splits text (run_end text place) (name_ends text place utf8 within (named_is text place name is))
