use Rattle.std.proofs.Common.{◌≡◌}
use Rattle.std.specs.Prelude.{bytes_eq}
use Rattle.std.specs.FinMap as map
use Rattle.layered_settings.proofs.settings.have_same_parents.Given as goal

abbrev pub invariant-loop-parent : goal.invariant-loop-parent
invariant-loop-parent l = bytes_eq l.parent-iterator l.others ≡ bytes_eq (map.values l.one) (map.values l.other)
