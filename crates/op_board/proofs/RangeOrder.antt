-- Positions and ranges are in a total order.
use Rattle.std.specs.Cmp.{IsTotalOrder, then_total, on_total, nat_cmp_total}
use Rattle.text_core.specs.declared.position.Position.{Position}
use Rattle.text_core.specs.declared.position.Range.{Range}
use Rattle.op_board.specs.Diagnostics.{position_cmp, range_cmp}

position_total : IsTotalOrder position_cmp
position_total = then_total (on_total (λ (p : Position). p.line) nat_cmp_total) (on_total (λ (p : Position). p.character) nat_cmp_total)

pub range_total : IsTotalOrder range_cmp
range_total = then_total (on_total (λ (r : Range). r.start) position_total) (on_total (λ (r : Range). r.end) position_total)
