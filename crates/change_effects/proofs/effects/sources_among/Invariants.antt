use Rattle.std.proofs.Common.{◌≡◌, ◌++◌, drop}
use Rattle.std.specs.List.{filter_map}
use Rattle.change_effects.specs.Changes.{source_of}
use Rattle.change_effects.specs.Effects.{sources_among}
use Rattle.change_effects.proofs.effects.sources_among.Given as goal

abbrev pub invariant-loop-change : goal.invariant-loop-change
invariant-loop-change l = l.list ++ filter_map source_of (drop l.change-index l.changes) ≡ sources_among l.changes
