-- Lists that are read item by item.
use Rattle.std.proofs.Common.{List, ◌++◌, map, Option}
use Rattle.std.specs.Option.{option_map}
use Rattle.serde_json.specs.View.{items_of, view}
use Rattle.serde_json.specs.declared.value.Value.{Value}
use Rattle.lsp_types.specs.Params.{positions_in}
use Rattle.text_core.specs.declared.position.Position.{Position}

-- what is done, and then the others
abbrev pub joined : {X : Type 0} → List X → Option (List X) → Option (List X)
joined done others = option_map (λ rest. done ++ rest) others

abbrev pub positions_from : List Value → Option (List Position)
positions_from list = positions_in (items_of (map view list))
