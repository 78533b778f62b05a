use Rattle.std.proofs.Common.{eqb-true, eq-eqb}
use Rattle.plain.proofs.Mapped.{empty_by_len}
use Rattle.plain.proofs.by_text.ByText.is_empty.Goals as goal

pub returns : goal.returns
returns g c = let is = empty_by_len c.args.self.now _ c.len.ensures in (λ t. is.0 (eqb-true _ _ t), λ e. eq-eqb _ _ (is.1 e))
