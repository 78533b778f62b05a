use Rattle.ra_settings.proofs.KindLaws.{nothing-kinds}
use Rattle.ra_settings.proofs.layer.Layer.empty.Goals as goal

pub invariant_of-result : goal.invariant_of-result
invariant_of-result c = rw (c.in_ok-new.ensures.ok, c.in_ok-values.ensures) nothing-kinds
