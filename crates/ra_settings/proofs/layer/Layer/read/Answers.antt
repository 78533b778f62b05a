use Rattle.ra_settings.proofs.KindLaws.{layer-kinds}
use Rattle.ra_settings.proofs.layer.Layer.read.Goals as goal

pub invariant_of-layer : goal.invariant_of-layer
invariant_of-layer c = rw (c.in_ok-new.ensures.ok, c.in_ok-values.ensures.values) (layer-kinds _ _ _)
