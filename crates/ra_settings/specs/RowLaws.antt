-- The rows, each once, and what a layer and the defaults have at each.
use Rattle.std.specs.Prelude.{◌≡◌, ℕ, List, [], ◌∷◌, map, Some, slice_get}
use Rattle.serde_json.specs.Data.{Data}
use Rattle.ra_settings.specs.declared.row.TheConstants.{ROWS}
use Rattle.ra_settings.specs.declared.row.Row.{Row}
use Rattle.ra_settings.specs.declared.layer.Source.{Source}
use Rattle.ra_settings.specs.Facts.{facts_of}
use Rattle.ra_settings.specs.Layers.{reading, value_in, layer_of, value_at, defaults_of}

abbrev pub place_of : Row → ℕ
place_of row = (facts_of row).place

abbrev pub places : List ℕ
places =
    0 ∷ 1 ∷ 2 ∷ 3 ∷ 4 ∷ 5 ∷ 6 ∷ 7 ∷ 8 ∷ 9 ∷ 10 ∷ 11 ∷ 12 ∷ 13 ∷ 14 ∷ 15 ∷ 16 ∷ 17 ∷ 18 ∷ 19 ∷ 20 ∷ 21 ∷ 22 ∷ 23 ∷ 24 ∷ []

-- each row stands in the list at its place, and no row stands there a second time: the list's rows have the places in order
abbrev pub EachRowOnce : Type 0
EachRowOnce = (map place_of ROWS ≡ places) × ((row : Row) → slice_get ROWS (place_of row) ≡ Some row)

-- a layer has at a row what that row's place in the tree is read as
abbrev pub ReadByRow : Type 0
ReadByRow = (row : Row) (source : Source) (root : List ℕ) (d : Data) → value_at row (layer_of source root d) ≡ value_in (reading source root d row)

-- the defaults have at a row's place its default
abbrev pub DefaultsByRow : Type 0
DefaultsByRow = (row : Row) → slice_get (defaults_of ROWS) (place_of row) ≡ Some (facts_of row).default
