use Rattle.std.proofs.Common.{sym, ap, arith, ◌∙◌}
use Rattle.std.specs.Prelude.{is_some}
use Rattle.std.specs.FinMap as map
use Rattle.op_board.proofs.Rooms.{mark_again, more_len}
use Rattle.op_board.proofs.marks.Marks.mark.Goals as goal

pub returns-then-contains : goal.returns-then-contains
returns-then-contains c =
    mark_again c.args.self.now c.args.file (ap (λ m. is_some (map.get m c.args.file.0)) (sym c.self.view_is) ∙ sym c.contains.ensures ∙ c.if-contains.true)

pub invariant_of-self-2 : goal.invariant_of-self-2
invariant_of-self-2 c = omega (arith, c.self.invariant, c.in_ok-push.ensures.len, more_len _ _ _ _ c.in_ok-insert.ensures.ok)
