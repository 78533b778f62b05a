use Rattle.std.proofs.Common.{◌≡◌, ◌++◌}
use Rattle.std.specs.Prelude.{option_map}
use Rattle.std.specs.Vec.Iter.{into_iter_items}
use Rattle.serde_json.specs.View.{items_view}
use Rattle.lsp_types.specs.Edits.{read_edits}
use Rattle.lsp_types.proofs.edits.read_edits.Given as goal

abbrev pub invariant-loop-change : goal.invariant-loop-change
invariant-loop-change l = option_map (λ more. l.edits ++ more) (read_edits (items_view (into_iter_items l.change-iterator))) ≡ read_edits (items_view l.fn.changes.items)
