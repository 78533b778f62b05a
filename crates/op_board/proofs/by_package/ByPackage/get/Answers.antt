use Rattle.std.proofs.Common.{sym, ap, ◌∙◌}
use Rattle.op_board.proofs.PackageOrder.{package_total}
use Rattle.std.specs.FinMap as map
use Rattle.plain.proofs.Mapped.{get-view}
use Rattle.op_board.proofs.by_package.ByPackage.get.Goals as goal

pub returns : goal.returns
returns g c = c.get.ensures.value ∙ sym (get-view package_total c.self.inside.rows.entries c.args.name.now) ∙ ap (λ m. map.get m c.args.name.now) c.self.view_is
