use Rattle.std.proofs.Common.{◌<◌, length, arith}
use Rattle.record_codec.specs.Lists.{read_marked}
use Rattle.event_codec.proofs.Loops.{marked_on}
use Rattle.event_codec.proofs.recorded.decode_marked.Goals as goal

pub loop-preserved : goal.loop-preserved
loop-preserved g c =
    let code = g.T.Recorded.code in
    let lt : c.loop.counter < length c.args.cursor.now = omega arith in
    rw c.in_ok-push-in-1.ensures.ok (marked_on code c.loop.items (length c.args.cursor.now) c.loop.counter c.loop.cursor c.in_ok-item-in-1.item
    c.decode.new.cursor (read_marked code (length c.args.cursor.now) c.args.cursor.now)
    c.in_ok-byte.field-0 c.byte.new.self lt c.in_ok-byte.ensures c.in-1.is c.in_ok-item-in-1.ensures c.loop.invariant)
