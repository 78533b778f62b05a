use Rattle.std.proofs.Common.{◌≡◌, drop}
use Rattle.layered_settings.specs.Change.{put_parents, parents_of}
use Rattle.layered_settings.proofs.change.parents_of.Given as goal

abbrev pub invariant-loop-pair : goal.invariant-loop-pair
invariant-loop-pair l = put_parents l.parents (drop l.pair-index l.pairs) ≡ parents_of l.pairs
