use Rattle.std.proofs.lemmas.List.{take_more, take_all}
use Rattle.check_restarts.proofs.RowLaws.{added_none, added_more}
use Rattle.check_restarts.proofs.dependents.add_to_each.Goals as goal

pub loop-dep-init : goal.loop-dep-init
loop-dep-init c = added_none c.args.rows.now c.args.number

pub loop-dep-preserved : goal.loop-dep-preserved
loop-dep-preserved c =
    let at = c.loop-dep in
    let more = added_more _ _ _ c.args.number at.rows c.add.new.rows at.invariant c.in_ok-add.ensures in
    rw (take_more c.args.deps.now at.dep-index 0 c.loop-dep-test.true) more

pub returns : goal.returns
returns c = rw (take_all c.loop-dep.dep-index c.args.deps.now c.loop-dep-test.false) at c.loop-dep.invariant
