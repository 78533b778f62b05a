use Rattle.std.proofs.Common.{◌≡◌, ◌-◌, length}
use Rattle.record_codec.specs.Lists.{read_marked}
use Rattle.event_codec.proofs.Loops.{with_front}
use Rattle.event_codec.proofs.recorded.decode_marked.Given as goal

abbrev pub invariant-loop : goal.invariant-loop
invariant-loop g l = let c = g.T.Recorded.code in with_front l.items (read_marked c (length l.fn.cursor - l.counter) l.cursor) ≡ read_marked c
    (length l.fn.cursor) l.fn.cursor
