use Rattle.std.proofs.Common.{◌≡◌, ◌++◌}
use Rattle.std.specs.Vec.Iter.{into_iter_items}
use Rattle.session_port.specs.Written.{AllWritable, AreRead, frames_for}
use Rattle.session_port.proofs.turn_out.encode.Given as goal

abbrev pub invariant-loop-message : goal.invariant-loop-message
invariant-loop-message l = record {
  writable : AllWritable (into_iter_items l.message-iterator);
  frames : l.bytes.items ++ frames_for (into_iter_items l.message-iterator) ≡ frames_for l.fn.messages;
  read : AreRead (into_iter_items l.message-iterator) → AreRead l.fn.messages;
}
