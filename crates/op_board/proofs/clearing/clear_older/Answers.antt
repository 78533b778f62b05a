use Rattle.std.proofs.Common.{sym, ap, ◌∙◌}
use Rattle.op_board.specs.Checks.{with_left, sift, older_than}
use Rattle.op_board.proofs.Lending.{on_some}
use Rattle.op_board.proofs.Rooms.{left_none, left_some}
use Rattle.op_board.proofs.clearing.clear_older.Goals as goal

pub returns-then-is_empty : goal.returns-then-is_empty
returns-then-is_empty c =
    let put = on_some c.get_mut.result c.in-Some.packages c.in-Some.is (c.get_mut.follows.holds c.drop_older.new.self) in
    let map_is =
    c.remove.ensures.map
    ∙ left_none c.args.checks.now _ c.args.id c.drop_older.new.self put (sym c.is_empty.ensures ∙ c.if-is_empty.true)
    ∙ ap (λ left. with_left c.args.id left c.args.checks.now) c.drop_older.ensures in
    (λ i. (map_is i, c.in_ok-mark_older.ensures i))
    ∙ ap (λ o. sift (older_than c.args.generation) c.args.id o (c.args.checks.now, c.args.marks.now)) c.in-Some.ensures.value

pub returns-else-is_empty : goal.returns-else-is_empty
returns-else-is_empty c =
    let put = on_some c.get_mut.result c.in-Some.packages c.in-Some.is (c.get_mut.follows.holds c.drop_older.new.self) in
    let map_is =
    left_some c.args.checks.now _ c.args.id c.drop_older.new.self put (sym c.is_empty.ensures ∙ c.if-is_empty.false)
    ∙ ap (λ left. with_left c.args.id left c.args.checks.now) c.drop_older.ensures in
    (λ i. (map_is i, c.in_ok-mark_older.ensures i))
    ∙ ap (λ o. sift (older_than c.args.generation) c.args.id o (c.args.checks.now, c.args.marks.now)) c.in-Some.ensures.value
