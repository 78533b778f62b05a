-- The position of a place, and where the place of a position is in its turn.
use Rattle.std.specs.Prelude.{ℕ, ◌+◌, nat_lt, List, take, if◌then◌else◌}
use Rattle.std.specs.List.{after_last, count_by}
use Rattle.text_core.specs.Columns.{units_of}
use Rattle.text_core.specs.Lines.{line_of}
use Rattle.text_core.specs.Positions.{ends_line}
use Rattle.text_core.specs.declared.position.PositionEncoding.{PositionEncoding}
use Rattle.text_core.specs.declared.position.Position.{Position}

-- the position of a place: how many LF stand before it, and how many units since the last of them
abbrev pub position_of : PositionEncoding → List ℕ → ℕ → Position
position_of encoding text place =
    record { line = count_by ends_line (take place text); character = units_of encoding (after_last ends_line (take place text)) }

-- the end of a line: the start of the next, or the end of the last
abbrev pub end_of : PositionEncoding → List ℕ → ℕ → Position
end_of encoding text line =
    if nat_lt line (count_by ends_line text) then record { line = line + 1; character = 0 }
    else record { line = line; character = units_of encoding (line_of text line) }

-- a position within its line, and else its line's end
abbrev pub clamped : PositionEncoding → List ℕ → Position → Position
clamped encoding text position =
    if nat_lt position.character (units_of encoding (line_of text position.line)) then position else end_of encoding text position.line
