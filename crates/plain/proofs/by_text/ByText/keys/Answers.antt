use Rattle.std.proofs.Common.{sym, ap, ◌∙◌}
use Rattle.std.specs.FinMap as map
use Rattle.std.specs.Prelude.{map as each}
use Rattle.plain.proofs.Texted.{keys-view}
use Rattle.plain.proofs.by_text.ByText.keys.Goals as goal

pub returns-clause-rest : goal.returns-clause-rest
returns-clause-rest g c = ap (each g.K.TextKey.text) c.keys.ensures.rest ∙ sym (keys-view g.K.TextKey.text g.met.K.TextKey.in_order c.self.inside.rows.entries c.keys.ensures.ordered) ∙ ap map.keys c.self.view_is
