use Rattle.std.proofs.lemmas.List.{take_more, take_all}
use Rattle.check_restarts.proofs.WalkLaws.{reached_none, reached_more}
use Rattle.check_restarts.proofs.walk.mark_each.Goals as goal

pub loop-number-init : goal.loop-number-init
loop-number-init c = reached_none c.args.marks.now c.args.waiting.now

pub loop-number-preserved : goal.loop-number-preserved
loop-number-preserved c =
    let at = c.loop-number in
    let more = reached_more _ _ _ _ at.marks at.waiting c.mark.new.marks c.mark.new.waiting at.invariant c.in_ok-mark.ensures in
    rw (take_more c.args.row.now at.number-index 0 c.loop-number-test.true) more

pub returns : goal.returns
returns c = rw (take_all c.loop-number.number-index c.args.row.now c.loop-number-test.false) at c.loop-number.invariant
