use Rattle.std.proofs.Common.{ap, arith, ◌∙◌}
use Rattle.std.specs.Ordering.{nat_cmp}
use Rattle.std.specs.FinMap as map
use Rattle.op_board.proofs.marks.Marks.new.Goals as goal

pub invariant_of-result : goal.invariant_of-result
invariant_of-result c = omega (arith, ap map.len c.new.ensures ∙ map.len-empty nat_cmp (Unit {0}))
