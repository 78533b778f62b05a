-- Changes that are the whole text.
use Rattle.std.specs.Prelude.{◌≡◌, ℕ, ◌+◌, ◌≤◌, ◌&&◌, Bool, true, false, List, length, drop, slice_get, is_none, All, Option, Some, None, if◌then◌else◌}
use Rattle.std.specs.List.{fold}
use Rattle.text_core.specs.declared.position.PositionEncoding.{PositionEncoding}
use Rattle.text_core.specs.declared.change.ContentChange.{ContentChange}
use Rattle.text_core.specs.Changes.{fits}
use Rattle.text_core.specs.Rebuilds.{Progress, begun, progressed}

-- a change without a range, with a text within the limit
abbrev pub is_whole : ℕ → ContentChange → Bool
is_whole limit change = is_none change.range && fits limit change.text

abbrev pub HaveRanges : ℕ → List ContentChange → Type 0
HaveRanges limit changes = All (λ change. is_whole limit change ≡ false) changes

pub record StandsLast (limit : ℕ) (changes : List ContentChange) (i : ℕ) : Type 0 where
  pub change : ContentChange
  pub here : slice_get changes i ≡ Some change
  pub whole : is_whole limit change ≡ true
  pub later : HaveRanges limit (drop (i + 1) changes)

-- the last of a list that is the whole text
abbrev pub IsLastWhole : ℕ → List ContentChange → Option ℕ → Type 0
IsLastWhole limit changes None = HaveRanges limit changes
IsLastWhole limit changes (Some i) = StandsLast limit changes i

-- a change that isn't within the limit is dropped
abbrev pub taken : PositionEncoding → ℕ → Progress → ContentChange → Progress
taken encoding limit p change = if fits limit change.text then progressed encoding limit p change else p

-- a text and the changes left that come to the same, none of which is the whole text
pub record Begins (limit : ℕ) (contents : List ℕ) (changes : List ContentChange) (text : List ℕ) (rest : List ContentChange) : Type 0 where
  pub same : (encoding : PositionEncoding) → fold (taken encoding limit) (begun contents) changes ≡ fold (taken encoding limit) (begun text) rest
  pub fits : length text ≤ limit
  pub ranged : HaveRanges limit rest
  pub shorter : length rest ≤ length changes
