use Rattle.std.proofs.Common.{length}
use Rattle.std.proofs.lemmas.List.{take_all}
use Rattle.check_restarts.proofs.RowLaws.{rows_begun, rows_next}
use Rattle.check_restarts.proofs.dependents.fill.Goals as goal

pub loop-number-init : goal.loop-number-init
loop-number-init c = rows_begun (length c.args.crates.now) c.args.rows.now c.requires

pub loop-number-preserved : goal.loop-number-preserved
loop-number-preserved c =
    let at = c.loop-number in
    rows_next (length c.args.crates.now) c.args.crates.now at.number c.index-crates-number.result c.as_slice.result.now at.rows c.add_to_each.new.rows
    c.loop-number-test.true c.index-crates-number.is c.as_slice.ensures at.invariant c.in_ok-add_to_each.ensures

pub returns : goal.returns
returns c = rw (take_all c.loop-number.number c.args.crates.now c.loop-number-test.false) at c.loop-number.invariant
