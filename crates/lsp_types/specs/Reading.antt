-- What is read of positions and ranges (LSP 3.17).
use Rattle.std.specs.Prelude.{ℕ, List, codes, Option, option_and_then}
use Rattle.std.specs.Option.{option_map}
use Rattle.plain.specs.Reading.{as_u32}
use Rattle.serde_json.specs.Data.{Data}
use Rattle.serde_json.specs.Find.{get}
use Rattle.text_core.specs.declared.position.Position.{Position}
use Rattle.text_core.specs.declared.position.Range.{Range}

-- a whole number of u32
abbrev pub number_at : List ℕ → Data → Option ℕ
number_at key d = option_and_then as_u32 (get key d)

-- an object with the numbers `line` and `character`
abbrev pub read_position : Data → Option Position
read_position d =
    option_and_then (λ line. option_map (λ character. record { line = line; character = character }) (number_at (codes "character") d))
    (number_at (codes "line") d)

abbrev pub position_at : List ℕ → Data → Option Position
position_at key d = option_and_then read_position (get key d)

-- an object with the positions `start` and `end`
abbrev pub read_range : Data → Option Range
read_range d = option_and_then (λ start. option_map (λ end. record { start = start; end = end }) (position_at (codes "end") d)) (position_at (codes "start") d)
