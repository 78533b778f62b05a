use Rattle.std.proofs.Common.{refl, sym, ap, ◌∙◌}
use Rattle.std.specs.Prelude.{Some}
use Rattle.op_board.proofs.PackageOrder.{package_total, package_same}
use Rattle.std.specs.BTreeMap.{BTreeMap}
use Rattle.std.specs.FinMap as map
use Rattle.op_board.specs.Packages.{package_cmp}
use Rattle.plain.proofs.Mapped.{get-view, view-update}
use Rattle.op_board.proofs.Lending.{where_some}
use Rattle.op_board.proofs.by_package.ByPackage.get_mut.Goals as goal

pub returns : goal.returns
returns g c = (
  (
    refl,
    λ w. where_some c.get_mut.result _ _ c.get_mut.ensures.value (λ some.
        view-update package_total package_same (c.get_mut.follows.lender w).entries c.self.inside.rows.entries _ c.args.name.now (Some w)
        (map.get-insert package_total _ c.args.name.now w) ((c.get_mut.follows.holds w).3 some).0
        ∙ ap (λ m. map.insert m c.args.name.now w) c.self.view_is),
    ap (λ (m : BTreeMap _ _). map.from_entries {R = package_cmp} m.entries) c.get_mut.follows.holds-at-none ∙ c.self.view_is,
  ),
  record { writes_back = tt; value = c.get_mut.ensures.value ∙ sym (get-view package_total c.self.inside.rows.entries c.args.name.now) ∙ ap (λ m. map.get m c.args.name.now) c.self.view_is },
)
