use Rattle.std.proofs.Common.{◌≡◌, drop}
use Rattle.std.specs.Prelude.{is_some}
use Rattle.lsp_types.proofs.Lists.{positions_from}
use Rattle.lsp_types.proofs.params.are_positions.Given as goal

abbrev pub invariant-loop-item : goal.invariant-loop-item
invariant-loop-item l = is_some (positions_from l.list) ≡ is_some (positions_from (drop l.item-index l.list))
