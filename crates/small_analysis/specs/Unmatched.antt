-- The brackets of a text that have no partner.
use Rattle.std.specs.Prelude.{◌≡◌, ◌<◌, ℕ, ◌&&◌, Bool, true, false, List, length, slice_index_or, slice_set, is_none, is_some}
use Rattle.std.specs.Prelude.{Option, None, Some}
use Rattle.std.specs.FinMap as map
use Rattle.std.specs.Ordering.{nat_cmp}
use Rattle.small_analysis.specs.Brackets.{is_bracket_at, partners_of}
use Rattle.small_analysis.specs.declared.brackets.Bracket.{Bracket}

abbrev pub is_unmatched : List ℕ → ℕ → Bool
is_unmatched text place = is_bracket_at text place && is_none (map.get (partners_of text) place)

-- the marks of a bracket and of the opener that it closes are set
abbrev pub pair_marked : Bracket → Option Bracket → List Bool → List Bool
pair_marked here None marks = marks
pair_marked here (Some opener) marks = slice_set (slice_set marks opener.place true) here.place true

-- each of them has a mark
abbrev pub HasMarks : Bracket → Option Bracket → List Bool → Type 0
HasMarks here None marks = Unit {0}
HasMarks here (Some opener) marks = (opener.place < length marks) × (here.place < length marks)

-- there is a mark for each byte of a text, which is set where these partners have its place
pub record MarksMatched (text : List ℕ) (partners : map.FinMap nat_cmp Bracket) (marks : List Bool) : Type 0 where
  pub length_is : length marks ≡ length text
  pub each : (place : ℕ) → slice_index_or marks place false ≡ is_some (map.get partners place)
