use Rattle.record_codec.specs.Lists.{read_items}
use Rattle.event_codec.proofs.Loops.{goes_on}
use Rattle.event_codec.proofs.recorded.decode_items.Goals as goal

pub loop-preserved : goal.loop-preserved
loop-preserved g c =
    let code = g.T.Recorded.code in
    rw c.in_ok-push.ensures.ok (goes_on code c.loop.items c.args.count c.loop.counter c.loop.cursor c.in_ok-item.item c.decode.new.cursor
    (read_items code c.args.count c.args.cursor.now) c.loop-test.true c.in_ok-item.ensures c.loop.invariant)
