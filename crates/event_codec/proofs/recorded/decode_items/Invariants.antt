use Rattle.std.proofs.Common.{◌≡◌, ◌-◌}
use Rattle.record_codec.specs.Lists.{read_items}
use Rattle.event_codec.proofs.Loops.{with_front}
use Rattle.event_codec.proofs.recorded.decode_items.Given as goal

abbrev pub invariant-loop : goal.invariant-loop
invariant-loop g l = let c = g.T.Recorded.code in with_front l.items (read_items c (l.count - l.counter) l.cursor) ≡ read_items c l.count l.fn.cursor
