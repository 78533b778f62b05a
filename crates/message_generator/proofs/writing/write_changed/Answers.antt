use Rattle.message_generator.proofs.Writable.{changed_writable}
use Rattle.message_generator.proofs.writing.write_changed.Goals as goal

pub write_message-requires : goal.write_message-requires
write_message-requires c = rw c.in_ok-message.ensures (changed_writable _ _ _ _)
