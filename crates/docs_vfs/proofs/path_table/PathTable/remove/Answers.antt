use Rattle.std.proofs.Common.{sym, ap, ◌∙◌}
use Rattle.std.specs.Prelude.{None}
use Rattle.std.specs.Cmp.Lexicographic.{nat_list_cmp_total}
use Rattle.std.specs.FinMap as map
use Rattle.docs_vfs.proofs.ByHash.{get-view, view-update}
use Rattle.docs_vfs.proofs.path_table.PathTable.remove.Goals as goal

pub returns-clause-value : goal.returns-clause-value
returns-clause-value g c = c.remove.ensures.value ∙ sym (get-view c.self.inside.rows.entries c.args.path.now) ∙ ap (λ m. map.get m c.args.path.now) c.self.view_is

pub returns-clause-map : goal.returns-clause-map
returns-clause-map g c =
    view-update c.remove.new.self.entries c.self.inside.rows.entries _ c.args.path.now None
    (map.get-remove nat_list_cmp_total _ c.args.path.now) c.remove.ensures.updates.0
    ∙ ap (λ m. map.remove m c.args.path.now) c.self.view_is
