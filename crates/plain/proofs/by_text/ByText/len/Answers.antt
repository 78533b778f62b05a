use Rattle.std.proofs.Common.{sym, ap, ◌∙◌}
use Rattle.std.specs.FinMap as map
use Rattle.plain.proofs.Texted.{len-view}
use Rattle.plain.proofs.by_text.ByText.len.Goals as goal

pub returns : goal.returns
returns g c = c.len.ensures.len ∙ sym (len-view g.K.TextKey.text g.met.K.TextKey.in_order c.self.inside.rows.entries c.len.ensures.ordered) ∙ ap map.len c.self.view_is
