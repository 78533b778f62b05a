use Rattle.std.proofs.Common.{◌≡◌, ◌++◌, drop}
use Rattle.ra_settings.specs.Layers.{none_of}
use Rattle.ra_settings.proofs.layer.none_of.Given as goal

abbrev pub invariant-loop-row : goal.invariant-loop-row
invariant-loop-row l = l.values ++ none_of (drop l._row-index l.rows) ≡ none_of l.rows
