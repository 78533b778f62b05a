use Rattle.std.proofs.Common.{◌∙◌}
use Rattle.plain.proofs.Texted.{copy-view}
use Rattle.plain.proofs.by_text.ByTextClone.clone.Goals as goal

pub returns : goal.returns
returns g c = record { cases = copy-view g.K.TextKey.text g.met.K.TextKey.in_order g.met.K.ExactClone.copies g.met.V.ExactClone.copies _ _ c.in_ok-clone.ensures.cases ∙ c.self.view_is }
