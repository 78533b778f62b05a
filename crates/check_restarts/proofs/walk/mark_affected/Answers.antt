use Rattle.check_restarts.proofs.WalkLaws.{all_walked}
use Rattle.std.proofs.Common.{List, ℕ, subst}
use Rattle.check_restarts.specs.Walk.{Reached}
use Rattle.check_restarts.proofs.walk.mark_affected.Goals as goal

pub returns : goal.returns
returns c =
    let a = c.args in
    let m = c.mark_each.new in
    let begun = subst (λ (w : List ℕ). Reached a.starts.now a.marks.now w m.marks m.waiting) c.new-waiting.ensures c.in_ok-mark_each.ensures in
    all_walked a.rows.now a.starts.now a.marks.now m.marks m.waiting c.spread.new.marks c.requires begun c.in_ok-spread.ensures
