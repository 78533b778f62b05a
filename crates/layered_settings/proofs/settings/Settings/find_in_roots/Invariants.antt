use Rattle.std.proofs.Common.{◌≡◌, ◌+◌}
use Rattle.std.specs.FinMap as map
use Rattle.layered_settings.proofs.SearchLaws.{walk}
use Rattle.layered_settings.proofs.settings.Settings.find_in_roots.Given as goal

abbrev pub invariant-roots : goal.invariant-roots
invariant-roots l = walk l.left l.row l.self l.at ≡ walk (map.len l.self.parents + 1) l.row l.self l.fn.root

abbrev pub decreases-roots : goal.decreases-roots
decreases-roots l = l.left
