use Rattle.std.proofs.Common.{sym, ap, ◌∙◌}
use Rattle.op_board.specs.Checks.{with_left, drop_in, drops_at}
use Rattle.op_board.proofs.Lending.{on_some}
use Rattle.op_board.proofs.Rooms.{left_none, left_some}
use Rattle.op_board.proofs.clearing.clear_one.Goals as goal

pub returns-then-is_empty : goal.returns-then-is_empty
returns-then-is_empty c =
    let put = on_some c.get_mut.result c.in-Some.packages c.in-Some.is (c.get_mut.follows.holds c.drop_package.new.packages) in
    let whole = c.in_ok-drop_package.ensures in
    let map_is =
    c.remove.ensures.map
    ∙ left_none c.args.checks.now _ c.args.id c.drop_package.new.packages put (sym c.is_empty.ensures ∙ c.if-is_empty.true)
    ∙ ap (λ t. with_left c.args.id t.0 c.args.checks.now) whole in
    (λ i. (map_is i, (whole i).1))
    ∙ ap (λ o. drop_in (drops_at c.args.older_than) c.args.id c.args.name.now o (c.args.checks.now, c.args.marks.now)) c.in-Some.ensures.value

pub returns-else-is_empty : goal.returns-else-is_empty
returns-else-is_empty c =
    let put = on_some c.get_mut.result c.in-Some.packages c.in-Some.is (c.get_mut.follows.holds c.drop_package.new.packages) in
    let whole = c.in_ok-drop_package.ensures in
    let map_is =
    left_some c.args.checks.now _ c.args.id c.drop_package.new.packages put (sym c.is_empty.ensures ∙ c.if-is_empty.false)
    ∙ ap (λ t. with_left c.args.id t.0 c.args.checks.now) whole in
    (λ i. (map_is i, (whole i).1))
    ∙ ap (λ o. drop_in (drops_at c.args.older_than) c.args.id c.args.name.now o (c.args.checks.now, c.args.marks.now)) c.in-Some.ensures.value
