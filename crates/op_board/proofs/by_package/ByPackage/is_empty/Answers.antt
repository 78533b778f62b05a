use Rattle.std.proofs.Common.{sym, ap, ◌∙◌}
use Rattle.std.specs.Prelude.{nat_eq}
use Rattle.op_board.proofs.PackageOrder.{package_total}
use Rattle.std.specs.FinMap as map
use Rattle.plain.proofs.Mapped.{len-view}
use Rattle.op_board.proofs.by_package.ByPackage.is_empty.Goals as goal

pub returns : goal.returns
returns g c =
    ap (λ n. nat_eq n 0) (c.len.ensures.len ∙ sym (len-view package_total c.self.inside.rows.entries c.len.ensures.ordered) ∙ ap map.len c.self.view_is)
