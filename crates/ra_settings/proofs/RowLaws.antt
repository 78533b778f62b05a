-- The rows, each once, and what a layer and the defaults have at each.
use Rattle.std.proofs.Common.{◌≡◌, refl, Some}
use Rattle.std.specs.Prelude.{map, slice_get}
use Rattle.ra_settings.specs.declared.row.TheConstants.{ROWS}
use Rattle.ra_settings.specs.declared.row.Row.{Row}
use Rattle.ra_settings.specs.Facts.{facts_of}
use Rattle.ra_settings.specs.Layers.{defaults_of}
use Rattle.ra_settings.specs.RowLaws.{place_of, places, EachRowOnce, ReadByRow, DefaultsByRow}
use Rattle.ra_settings.proofs.KindLaws.{value_at-layer}

in_order : map place_of ROWS ≡ places
unfolding facts_of
in_order = refl

row_stands : (row : Row) → slice_get ROWS (place_of row) ≡ Some row
unfolding facts_of
row_stands Row.DetachedFiles = refl
row_stands _ = refl

pub each_row_once : EachRowOnce
each_row_once = (in_order, row_stands)

pub read_by_row : ReadByRow
read_by_row = value_at-layer

pub default_stands : (row : Row) → slice_get (defaults_of ROWS) (facts_of row).place ≡ Some (facts_of row).default
unfolding facts_of
default_stands Row.DetachedFiles = refl
default_stands _ = refl
