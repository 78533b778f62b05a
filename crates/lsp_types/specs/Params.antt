-- What is read of the params of a request (LSP 3.17, TextDocumentPositionParams and the like).
use Rattle.std.specs.Prelude.{ℕ, List, [], ◌∷◌, codes, Option, Some, option_and_then}
use Rattle.std.specs.Option.{option_map}
use Rattle.serde_json.specs.Data.{Data, Items, no_items, item}
use Rattle.serde_json.specs.Find.{get, as_array, as_str}
use Rattle.lsp_types.specs.Reading.{read_position, read_range}
use Rattle.text_core.specs.declared.position.Position.{Position}
use Rattle.text_core.specs.declared.position.Range.{Range}

-- the text `uri` in `textDocument`
abbrev pub uri_of : Data → Option (List ℕ)
uri_of params = option_and_then as_str (option_and_then (get (codes "uri")) (get (codes "textDocument") params))

-- the position in `position`
abbrev pub position_of : Data → Option Position
position_of params = option_and_then read_position (get (codes "position") params)

-- the range in `range`
abbrev pub range_of : Data → Option Range
range_of params = option_and_then read_range (get (codes "range") params)

-- the positions that items are, where each is one
abbrev pub positions_in : Items → Option (List Position)
positions_in no_items = Some []
positions_in (item d ds) = option_and_then (λ position. option_map (λ positions. position ∷ positions) (positions_in ds)) (read_position d)

-- the list in `positions`
abbrev pub list_of : Data → Option Items
list_of params = option_and_then as_array (get (codes "positions") params)

-- the positions in `positions`
abbrev pub positions_of : Data → Option (List Position)
positions_of params = option_and_then positions_in (list_of params)
