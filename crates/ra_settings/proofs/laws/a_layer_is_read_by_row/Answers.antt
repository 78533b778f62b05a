use Rattle.ra_settings.proofs.RowLaws.{each_row_once, read_by_row, default_stands}
use Rattle.ra_settings.proofs.laws.a_layer_is_read_by_row.Goals as goal

pub returns : goal.returns
returns c = record { once = each_row_once; read = read_by_row; defaults = default_stands }
