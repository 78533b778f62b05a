-- What a column of a line is, by the characters before it.
use Rattle.std.specs.Prelude.{◌≡◌, ℕ, ◌<◌, ◌≤◌, ◌⊎◌, false, List, length, take, slice_index}
use Rattle.std.specs.List.{sum_by}
use Rattle.text_core.specs.Positions.{is_inside, units}
use Rattle.text_core.specs.declared.position.PositionEncoding.{PositionEncoding}

-- the units of the front of a line
abbrev pub units_of : PositionEncoding → List ℕ → ℕ
units_of encoding front = sum_by (units encoding) front

-- a front that has exactly so many units and ends where a character begins
abbrev pub HasUnits : PositionEncoding → ℕ → List ℕ → ℕ → Type 0
HasUnits encoding column line n =
    (n < length line) × (units_of encoding (take n line) ≡ column) × (is_inside (slice_index line n) ≡ false)

-- a column stands behind the front that has its units, or behind the line, where that has no more units
abbrev pub StandsBehind : PositionEncoding → ℕ → List ℕ → ℕ → Type 0
StandsBehind encoding column line n = HasUnits encoding column line n ⊎ ((n ≡ length line) × (units_of encoding line ≤ column))
