use Rattle.std.proofs.Common.{refl, sym, ap, ◌∙◌}
use Rattle.std.specs.Prelude.{Some}
use Rattle.std.specs.Cmp.Lexicographic.{nat_list_cmp_total}
use Rattle.std.specs.HashMap.{HashMap}
use Rattle.std.specs.FinMap as map
use Rattle.plain.proofs.Mapped.{where_some}
use Rattle.docs_vfs.specs.Paths.{path_cmp}
use Rattle.docs_vfs.proofs.ByHash.{get-view, view-update}
use Rattle.docs_vfs.proofs.path_table.PathTable.get_mut.Goals as goal

pub returns : goal.returns
returns g c = (
  (
    refl,
    λ w. where_some c.get_mut.result _ _ c.get_mut.ensures.value (λ some.
        view-update (c.get_mut.follows.lender w).entries c.self.inside.rows.entries _ c.args.path.now (Some w)
        (map.get-insert nat_list_cmp_total _ c.args.path.now w) ((c.get_mut.follows.holds w).3 some).0
        ∙ ap (λ m. map.insert m c.args.path.now w) c.self.view_is),
    ap (λ (m : HashMap _ _ _). map.from_entries {R = path_cmp} m.entries) c.get_mut.follows.holds-at-none ∙ c.self.view_is,
  ),
  record { writes_back = tt; value = c.get_mut.ensures.value ∙ sym (get-view c.self.inside.rows.entries c.args.path.now) ∙ ap (λ m. map.get m c.args.path.now) c.self.view_is },
)
