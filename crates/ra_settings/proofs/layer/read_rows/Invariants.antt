use Rattle.std.proofs.Common.{◌≡◌, ◌++◌, drop}
use Rattle.serde_json.specs.View.{view}
use Rattle.ra_settings.specs.Layers.{values_of, errors_of}
use Rattle.ra_settings.proofs.layer.read_rows.Given as goal

abbrev pub invariant-loop-row : goal.invariant-loop-row
invariant-loop-row l = record {
  values : l.values ++ values_of l.source l.root (view l.tree) (drop l.row-index l.rows) ≡ values_of l.source l.root (view l.tree) l.rows;
  errors : l.errors ++ errors_of l.place l.source l.root (view l.tree) (drop l.row-index l.rows) ≡ l.initial.errors ++ errors_of l.place l.source l.root (view l.tree) l.rows;
}
