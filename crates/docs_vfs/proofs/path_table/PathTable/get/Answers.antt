use Rattle.std.proofs.Common.{sym, ap, ◌∙◌}
use Rattle.std.specs.FinMap as map
use Rattle.docs_vfs.proofs.ByHash.{get-view}
use Rattle.docs_vfs.proofs.path_table.PathTable.get.Goals as goal

pub returns : goal.returns
returns g c = c.get.ensures.value ∙ sym (get-view c.self.inside.rows.entries c.args.path.now) ∙ ap (λ m. map.get m c.args.path.now) c.self.view_is
