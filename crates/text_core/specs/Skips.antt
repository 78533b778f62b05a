-- Whether a change of a list is skipped.
use Rattle.std.specs.Prelude.{ℕ, ◌&&◌, ◌||◌, Bool, false, is_none, is_some, List, [], ◌∷◌, Option, Some, None}
use Rattle.std.specs.List.{list_all}
use Rattle.text_core.specs.declared.position.PositionEncoding.{PositionEncoding}
use Rattle.text_core.specs.declared.position.Range.{Range}
use Rattle.text_core.specs.declared.change.ContentChange.{ContentChange}
use Rattle.text_core.specs.Changes.{edited, changed, admitted}

-- a range that has no place in a text, or whose edit passes the limit
abbrev pub is_skipped_at : PositionEncoding → ℕ → List ℕ → Option Range → List ℕ → Bool
is_skipped_at encoding limit text None new = false
is_skipped_at encoding limit text (Some range) new = is_none (edited encoding limit text range new)

-- an edit that can't be made
abbrev pub is_skipped : PositionEncoding → ℕ → List ℕ → ContentChange → Bool
is_skipped encoding limit text change = is_skipped_at encoding limit text change.range change.text

-- each change has a range
abbrev pub all_ranged : List ContentChange → Bool
all_ranged changes = list_all (λ change. is_some change.range) changes

-- some change is skipped on the text that those before it leave, and all after it have ranges
abbrev pub some_skipped : PositionEncoding → ℕ → List ℕ → List ContentChange → Bool
some_skipped encoding limit text [] = false
some_skipped encoding limit text (change ∷ later) =
    is_skipped encoding limit text change && all_ranged later || some_skipped encoding limit (changed encoding limit text change) later

-- a change is skipped after which no whole text comes. Changes whose own text passes the limit are dropped before
unfoldable pub skips : PositionEncoding → ℕ → List ℕ → List ContentChange → Bool
skips encoding limit contents changes = some_skipped encoding limit contents (admitted limit changes)
