use Rattle.std.proofs.Common.{◌≡◌}
use Rattle.std.specs.Slice.Iter.{iter_rest}
use Rattle.std.specs.List.{list_any}
use Rattle.lsp_types.specs.Diagnostics.{same_diagnostic}
use Rattle.op_board.proofs.check_package.contains.Given as goal

abbrev pub invariant-loop-other : goal.invariant-loop-other
invariant-loop-other l = list_any (same_diagnostic l.diagnostic) (iter_rest l.other-iterator) ≡ list_any (same_diagnostic l.diagnostic) l.list
