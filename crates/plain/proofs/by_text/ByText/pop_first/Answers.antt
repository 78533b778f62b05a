use Rattle.std.proofs.Common.{refl, arith}
use Rattle.plain.proofs.Texted.{popped}
use Rattle.plain.proofs.by_text.ByText.pop_first.Goals as goal

pub returns : goal.returns
returns g c =
    popped g.K.TextKey.text g.met.K.TextKey.in_order c.pop_first.result c.self.inside.rows.entries c.pop_first.new.self.entries _ _ c.self.view_is refl
    c.len-in_order.ensures.ordered c.pop_first.ensures.ordered c.pop_first.ensures.variant.1 c.pop_first.ensures.removal (omega (arith, c.pop_first.ensures.len))
