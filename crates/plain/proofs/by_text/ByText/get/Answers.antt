use Rattle.std.proofs.Common.{sym, ap, ◌∙◌}
use Rattle.std.specs.FinMap as map
use Rattle.plain.proofs.Texted.{get-view}
use Rattle.plain.proofs.by_text.ByText.get.Goals as goal

pub returns : goal.returns
returns g c = c.get.ensures.value ∙ sym (get-view g.K.TextKey.text g.met.K.TextKey.in_order c.self.inside.rows.entries c.args.key.now) ∙ ap (λ m. map.get m (g.K.TextKey.text c.args.key.now)) c.self.view_is
