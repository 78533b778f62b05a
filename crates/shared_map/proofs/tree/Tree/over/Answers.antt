use Rattle.std.proofs.Common.{◌≡◌, max, arith}
use Rattle.std.specs.Arc.{arc_value}
use Rattle.shared_map.specs.Trees.{IsDeep}
use Rattle.shared_map.proofs.Depth.{deep_node}
use Rattle.shared_map.proofs.tree.Tree.over.Goals as goal

pub invariant_of-result : goal.invariant_of-result
invariant_of-result g c =
    let f = arc_value c.args.node in
    let low : IsDeep f.left.0 f.left.1 = rw c.deref.ensures at c.height.ensures.deep in
    let high : IsDeep f.right.0 f.right.1 = rw c.deref-2.ensures at c.height-2.ensures.deep in
    let left : c.height.result ≡ f.left.1 = rw c.deref.ensures at c.height.ensures.value in
    let right : c.height-2.result ≡ f.right.1 = rw c.deref-2.ensures at c.height-2.ensures.value in
    let is : c.max-height.result ≡ max f.left.1 f.right.1 = grind arith in (
      record { height = omega arith; left_near = omega arith; right_near = omega arith },
      deep_node f.left.0 f.right.0 _ f.left.1 f.right.1 _ low high c.requires.near (omega arith),
    )
