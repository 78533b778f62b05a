use Rattle.std.proofs.Common.{sym, ap, ◌∙◌}
use Rattle.std.specs.FinMap as map
use Rattle.plain.proofs.Texted.{get-view, insert-view}
use Rattle.plain.proofs.by_text.ByText.insert.Goals as goal

pub returns-clause-old : goal.returns-clause-old
returns-clause-old g c =
    c.in_ok-insert.ensures.old ∙ sym (get-view g.K.TextKey.text g.met.K.TextKey.in_order c.self.inside.rows.entries c.args.key) ∙ ap (λ m. map.get m (g.K.TextKey.text c.args.key)) c.self.view_is

pub returns-clause-ok : goal.returns-clause-ok
returns-clause-ok g c =
    insert-view g.K.TextKey.text g.met.K.TextKey.in_order c.self.inside.rows.entries c.insert.new.self.entries c.args.key c.args.value c.in_ok-insert.ensures.entries
    ∙ ap (λ m. map.insert m (g.K.TextKey.text c.args.key) c.args.value) c.self.view_is
