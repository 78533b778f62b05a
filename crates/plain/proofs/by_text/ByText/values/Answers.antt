use Rattle.std.proofs.Common.{sym, ap, ◌∙◌}
use Rattle.std.specs.FinMap as map
use Rattle.plain.proofs.Texted.{values-view}
use Rattle.plain.proofs.by_text.ByText.values.Goals as goal

pub returns-clause-rest : goal.returns-clause-rest
returns-clause-rest g c = c.values.ensures.rest ∙ sym (values-view g.K.TextKey.text g.met.K.TextKey.in_order c.self.inside.rows.entries c.values.ensures.ordered) ∙ ap map.values c.self.view_is
