use Rattle.std.proofs.Common.{◌++◌, length, sym, ap, ◌∙◌, append-nil}
use Rattle.std.specs.List.{filter_map}
use Rattle.std.specs.FinMap as map
use Rattle.docs_vfs.specs.Files.{change_of}
use Rattle.docs_vfs.proofs.file_table.drain_changes.Goals as goal

pub returns-in-None : goal.returns-in-None
returns-in-None c = (
  sym (append-nil c.paths.list) ∙ ap (λ rows. c.paths.list ++ filter_map (change_of c.args.rows.now) rows) (sym c.in-None.ensures.0) ∙ c.paths.invariant,
  map.empty_of_len _ (map.len-entries _ ∙ ap length c.in-None.ensures.1),
)
