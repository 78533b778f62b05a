-- Places of positions, and positions of places, by what a column counts. All is said of the UTF-8 bytes of a text.
use Rattle.std.specs.Prelude.{ℕ, List, Option}
use Rattle.std.specs.Result.{result_ok}
use Rattle.text_core.specs.Places.{position_of}
use Rattle.text_core.specs.Positions.{place_of}
use Rattle.text_core.specs.declared.position.Position.{Position}
use Rattle.text_core.specs.declared.position.PositionEncoding.{PositionEncoding}

-- the place of a position, if the text has one
abbrev pub place_in : PositionEncoding → List ℕ → Position → Option ℕ
place_in encoding text position = result_ok (place_of encoding text position)

-- the position of a place
abbrev pub position_in : PositionEncoding → List ℕ → ℕ → Position
position_in encoding text place = position_of encoding text place
