use Rattle.std.proofs.Common.{◌≡◌}
use Rattle.std.specs.Prelude.{bytes_eq}
use Rattle.std.specs.FinMap as map
use Rattle.layered_settings.proofs.settings.have_same_roots.Given as goal

abbrev pub invariant-loop-root : goal.invariant-loop-root
invariant-loop-root l = bytes_eq l.root-iterator l.others ≡ bytes_eq (map.keys l.one) (map.keys l.other)
