-- A text on the way through a list of changes, and how often the index of lines that is kept over it is built anew.
use Rattle.std.specs.Prelude.{ℕ, ◌+◌, nat_le, max, min, Bool, true, false, List, if◌then◌else◌, Option, Some, None}
use Rattle.std.specs.List.{fold}
use Rattle.text_core.specs.declared.position.PositionEncoding.{PositionEncoding}
use Rattle.text_core.specs.declared.position.Range.{Range}
use Rattle.text_core.specs.declared.change.ContentChange.{ContentChange}
use Rattle.text_core.specs.Changes.{edited, admitted}

-- a text on the way, the least line at which an edit was made since the index was built, whether an edit was skipped, and
-- the rebuilds so far
pub record Progress : Type 0 where
  pub text : List ℕ
  pub least : Option ℕ
  pub skipped : Bool
  pub rebuilds : ℕ

abbrev pub begun : List ℕ → Progress
begun text = record { text = text; least = None; skipped = false; rebuilds = 0 }

-- the greater line of a range is at or past the least line
abbrev pub is_past : Range → Option ℕ → Bool
is_past range None = false
is_past range (Some least) = nat_le least (max range.start.line range.end.line)

-- a new index knows all lines
abbrev pub refreshed : Range → Progress → Progress
refreshed range p = if is_past range p.least then record p { least = None; rebuilds = p.rebuilds + 1 } else p

abbrev pub lowered : ℕ → Option ℕ → ℕ
lowered line None = line
lowered line (Some least) = min least line

-- an edit lowers the least line to its start's; a skipped one doesn't, and is noted
abbrev pub after_edit : ℕ → Progress → Option (List ℕ) → Progress
after_edit line p None = record p { skipped = true }
after_edit line p (Some text) = record p { text = text; least = Some (lowered line p.least) }

abbrev pub with_edit : PositionEncoding → ℕ → Range → List ℕ → Progress → Progress
with_edit encoding limit range new p = after_edit range.start.line (refreshed range p) (edited encoding limit p.text range new)

-- a change without a range begins anew
abbrev pub progress_at : PositionEncoding → ℕ → Progress → Option Range → List ℕ → Progress
progress_at encoding limit p None new = begun new
progress_at encoding limit p (Some range) new = with_edit encoding limit range new p

abbrev pub progressed : PositionEncoding → ℕ → Progress → ContentChange → Progress
progressed encoding limit p change = progress_at encoding limit p change.range change.text

-- the rebuilds of a list of changes, without the index that is built first
unfoldable pub rebuilds : PositionEncoding → ℕ → List ℕ → List ContentChange → ℕ
rebuilds encoding limit contents changes = (fold (progressed encoding limit) (begun contents) (admitted limit changes)).rebuilds
