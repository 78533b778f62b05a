use Rattle.std.proofs.Common.{◌≡◌, ◌++◌, drop}
use Rattle.ra_settings.specs.Layers.{defaults_of}
use Rattle.ra_settings.proofs.defaults.defaults_of.Given as goal

abbrev pub invariant-loop-row : goal.invariant-loop-row
invariant-loop-row l = l.values ++ defaults_of (drop l.row-index l.rows) ≡ defaults_of l.rows
