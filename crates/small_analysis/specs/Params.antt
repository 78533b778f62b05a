-- The params of a hover (LSP 3.17, HoverParams) and of matchingBrace, as far as they are read.
use Rattle.std.specs.Prelude.{ℕ, List, Option, option_and_then}
use Rattle.std.specs.Option.{option_map}
use Rattle.serde_json.specs.Data.{Data}
use Rattle.lsp_types.specs.Params.{uri_of, position_of, positions_of}
use Rattle.text_core.specs.declared.position.Position.{Position}

-- what hover is asked for
pub record HoverData : Type 0 where
  pub uri : List ℕ
  pub position : Position

-- what matchingBrace is asked for
pub record BraceData : Type 0 where
  pub uri : List ℕ
  pub positions : List Position

-- a document's URL and a position
abbrev pub hover_params : Data → Option HoverData
hover_params params =
    option_and_then (λ uri. option_map (λ position. record { uri = uri; position = position }) (position_of params))
    (uri_of params)

-- a document's URL and positions
abbrev pub brace_params : Data → Option BraceData
brace_params params =
    option_and_then (λ uri. option_map (λ positions. record { uri = uri; positions = positions }) (positions_of params))
    (uri_of params)
