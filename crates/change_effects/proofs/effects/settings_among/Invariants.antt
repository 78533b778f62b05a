use Rattle.std.proofs.Common.{◌≡◌, ◌++◌, drop}
use Rattle.std.specs.List.{filter_map}
use Rattle.change_effects.specs.Changes.{settings_of}
use Rattle.change_effects.specs.Effects.{settings_among}
use Rattle.change_effects.proofs.effects.settings_among.Given as goal

abbrev pub invariant-loop-change : goal.invariant-loop-change
invariant-loop-change l = l.list ++ filter_map settings_of (drop l.change-index l.changes) ≡ settings_among l.changes
