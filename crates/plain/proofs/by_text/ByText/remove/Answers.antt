use Rattle.std.proofs.Common.{sym, ap, ◌∙◌}
use Rattle.std.specs.FinMap as map
use Rattle.plain.proofs.Texted.{get-view, remove-view}
use Rattle.plain.proofs.by_text.ByText.remove.Goals as goal

pub returns-clause-value : goal.returns-clause-value
returns-clause-value g c = c.remove.ensures.value ∙ sym (get-view g.K.TextKey.text g.met.K.TextKey.in_order c.self.inside.rows.entries c.args.key.now) ∙ ap (λ m. map.get m (g.K.TextKey.text c.args.key.now)) c.self.view_is

pub returns-clause-map : goal.returns-clause-map
returns-clause-map g c =
    remove-view g.K.TextKey.text g.met.K.TextKey.in_order c.self.inside.rows.entries c.remove.new.self.entries c.args.key.now c.len-in_order.ensures.ordered c.remove.ensures.entries
    ∙ ap (λ m. map.remove m (g.K.TextKey.text c.args.key.now)) c.self.view_is
