use Rattle.std.proofs.lemmas.List.{take_all}
use Rattle.check_restarts.specs.Among.{holds}
use Rattle.check_restarts.proofs.RowLaws.{found_next}
use Rattle.check_restarts.proofs.affected.numbers_among.Goals as goal

pub loop-number-preserved : goal.loop-number-preserved
loop-number-preserved c =
    let at = c.loop-number in
    found_next (holds c.args.rows.now) c.args.paths.now at.number c.index-paths-number.result c.contains.result at.list c.push_if.new.list
    c.loop-number-test.true c.index-paths-number.is c.contains.ensures at.invariant c.in_ok-push_if.ensures

pub returns : goal.returns
returns c = rw (take_all c.loop-number.number c.args.paths.now c.loop-number-test.false) at c.loop-number.invariant
