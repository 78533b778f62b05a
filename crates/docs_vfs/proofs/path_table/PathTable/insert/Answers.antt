use Rattle.std.proofs.Common.{ap, ◌∙◌}
use Rattle.std.specs.Prelude.{Some}
use Rattle.std.specs.Cmp.Lexicographic.{nat_list_cmp_total}
use Rattle.std.specs.FinMap as map
use Rattle.docs_vfs.proofs.ByHash.{view-update}
use Rattle.docs_vfs.proofs.path_table.PathTable.insert.Goals as goal

pub returns-clause-ok : goal.returns-clause-ok
returns-clause-ok g c =
    view-update c.insert.new.self.entries c.self.inside.rows.entries _ c.args.path (Some c.args.value)
    (map.get-insert nat_list_cmp_total _ c.args.path c.args.value) c.in_ok-insert.ensures.updates.0
    ∙ ap (λ m. map.insert m c.args.path c.args.value) c.self.view_is
