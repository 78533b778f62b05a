-- A text after a list of changes: each is made on the whole text that the changes before it leave.
use Rattle.std.specs.Prelude.{◌≡◌, ◌≢◌, ℕ, nat_le, Bool, List, length, if◌then◌else◌, Option, Some, None, Result, Ok, Err}
use Rattle.std.specs.Option.{unwrap_or}
use Rattle.std.specs.List.{fold, filter, replace_range}
use Rattle.text_core.specs.declared.position.PositionEncoding.{PositionEncoding}
use Rattle.text_core.specs.declared.position.Range.{Range}
use Rattle.text_core.specs.declared.position.OffsetFault.{OffsetFault}
use Rattle.text_core.specs.declared.change.ContentChange.{ContentChange}
use Rattle.text_core.specs.Positions.{range_of}

-- a text of at most so many bytes
abbrev pub fits : ℕ → List ℕ → Bool
fits limit text = nat_le (length text) limit

abbrev pub if_fits : ℕ → List ℕ → Option (List ℕ)
if_fits limit text = if fits limit text then Some text else None

-- the text with a new one in the place of the bytes from one place up to another
abbrev pub replaced : ℕ → List ℕ → List ℕ → Result (ℕ × ℕ) OffsetFault → Option (List ℕ)
replaced limit text new (Err fault) = None
replaced limit text new (Ok places) = if_fits limit (replace_range text places.0 places.1 new)

-- the text with a new one in the place of a range. None where the range has no place, or the result passes the limit
abbrev pub edited : PositionEncoding → ℕ → List ℕ → Range → List ℕ → Option (List ℕ)
edited encoding limit text range new = replaced limit text new (range_of encoding text range)

abbrev pub changed_at : PositionEncoding → ℕ → List ℕ → Option Range → List ℕ → List ℕ
changed_at encoding limit text None new = new
changed_at encoding limit text (Some range) new = unwrap_or (edited encoding limit text range new) text

-- the text after a change: without a range it is the change's; an edit that can't be made is skipped
abbrev pub changed : PositionEncoding → ℕ → List ℕ → ContentChange → List ℕ
changed encoding limit text change = changed_at encoding limit text change.range change.text

-- the changes whose own text is within the limit
abbrev pub admitted : ℕ → List ContentChange → List ContentChange
admitted limit changes = filter (λ change. fits limit change.text) changes

-- the text after a list of changes. What stands before the last change without a range doesn't matter
unfoldable pub document : PositionEncoding → ℕ → List ℕ → List ContentChange → List ℕ
document encoding limit contents changes = fold (changed encoding limit) contents (admitted limit changes)

-- a new text where it is another one than the old, else none
abbrev pub IsOther : List ℕ → List ℕ → Option (List ℕ) → Type 0
IsOther old new None = new ≡ old
IsOther old new (Some text) = (text ≡ new) × (new ≢ old)
