use Rattle.std.proofs.Common.{ap, ◌∙◌}
use Rattle.std.specs.Prelude.{None}
use Rattle.op_board.proofs.PackageOrder.{package_total, package_same}
use Rattle.std.specs.FinMap as map
use Rattle.plain.proofs.Mapped.{view-update}
use Rattle.op_board.proofs.by_package.ByPackage.remove.Goals as goal

pub returns : goal.returns
returns g c =
    view-update package_total package_same c.remove.new.self.entries c.self.inside.rows.entries _ c.args.name.now None
    (map.get-remove package_total _ c.args.name.now) c.remove.ensures.updates.0
    ∙ ap (λ m. map.remove m c.args.name.now) c.self.view_is
