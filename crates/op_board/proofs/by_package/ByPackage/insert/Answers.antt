use Rattle.std.proofs.Common.{ap, ◌∙◌}
use Rattle.std.specs.Prelude.{Some}
use Rattle.op_board.proofs.PackageOrder.{package_total, package_same}
use Rattle.std.specs.FinMap as map
use Rattle.plain.proofs.Mapped.{view-update}
use Rattle.op_board.proofs.by_package.ByPackage.insert.Goals as goal

pub returns : goal.returns
returns g c =
    view-update package_total package_same c.insert.new.self.entries c.self.inside.rows.entries _ c.args.name (Some c.args.value)
    (map.get-insert package_total _ c.args.name c.args.value) c.in_ok-insert.ensures.updates.0
    ∙ ap (λ m. map.insert m c.args.name c.args.value) c.self.view_is
