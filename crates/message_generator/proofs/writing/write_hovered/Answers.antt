use Rattle.message_generator.proofs.Writable.{hovered_writable}
use Rattle.message_generator.proofs.writing.write_hovered.Goals as goal

pub write_message-requires : goal.write_message-requires
write_message-requires c = rw c.in_ok-hovered.ensures (hovered_writable _)
