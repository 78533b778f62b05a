-- The lines of a text.
use Rattle.std.specs.Prelude.{◌≡◌, ℕ, ◌≤◌, List, [], ◌∷◌, ◌++◌, slice_range, Option, Some, None}
use Rattle.std.specs.List.{before_first, count_by}
use Rattle.std.specs.String.Boundary.{IsSplitPoint}
use Rattle.text_core.specs.Positions.{ends_line, line_span, line_start}

abbrev pub bytes_in : List ℕ → Option (ℕ × ℕ) → List ℕ
bytes_in text None = []
bytes_in text (Some span) = slice_range text span.0 span.1

-- a line with its LF. A line past the last is empty
abbrev pub line_of : List ℕ → ℕ → List ℕ
line_of text line = bytes_in text (line_span line text)

-- a line without its LF
abbrev pub line_text : List ℕ → ℕ → List ℕ
line_text text line = before_first ends_line (line_of text line)

-- a place at which a line without its LF ends
pub record EndsText (text : List ℕ) (line end : ℕ) : Type 0 where
  pub split : IsSplitPoint text end
  pub rising : (start : ℕ) → line_start line text ≡ Some start → start ≤ end
  pub value : (start : ℕ) → line_start line text ≡ Some start → slice_range text start end ≡ line_text text line

-- bytes whose only LF is the last of them
pub record EndsWithLf (bytes : List ℕ) : Type 0 where
  pub front : List ℕ
  pub whole : bytes ≡ front ++ 10 ∷ []
  pub none : count_by ends_line front ≡ 0
