use Rattle.std.proofs.Common.{sym, ap, ◌∙◌}
use Rattle.std.specs.Map.{values_of}
use Rattle.op_board.proofs.PackageOrder.{package_total}
use Rattle.std.specs.FinMap as map
use Rattle.plain.proofs.Mapped.{entries-view}
use Rattle.op_board.proofs.by_package.ByPackage.values.Goals as goal

pub returns-clause-rest : goal.returns-clause-rest
returns-clause-rest g c =
    c.values.ensures.rest ∙ ap values_of (sym (entries-view package_total c.self.inside.rows.entries c.values.ensures.ordered)) ∙ ap map.values c.self.view_is
