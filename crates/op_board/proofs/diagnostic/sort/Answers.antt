use Rattle.std.proofs.Common.{rules, ap, ◌∙◌}
use Rattle.plain.proofs.Stable.{sorted_by_key}
use Rattle.lsp_types.specs.declared.diagnostic.Diagnostic.{Diagnostic}
use Rattle.op_board.specs.Diagnostics.{in_order}
use Rattle.op_board.proofs.RangeOrder.{range_total}
use Rattle.op_board.proofs.diagnostic.sort.Goals as goal

pub returns : goal.returns
returns c =
    c.from_vec.ensures
    ∙ sorted_by_key range_total (λ (d : Diagnostic). d.range) _ _ c.in_ok-sort_by.ensures.sorted c.in_ok-sort_by.ensures.stable (λ f a r f' k. search rules)
    ∙ ap in_order c.into_vec-items.ensures
