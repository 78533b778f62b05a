use Rattle.std.proofs.Common.{◌≡◌, drop}
use Rattle.lsp_types.proofs.Lists.{joined, positions_from}
use Rattle.lsp_types.proofs.params.positions_in.Given as goal

abbrev pub invariant-loop-item : goal.invariant-loop-item
invariant-loop-item l = positions_from l.list ≡ joined l.positions (positions_from (drop l.item-index l.list))
