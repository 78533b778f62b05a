use Rattle.message_generator.proofs.Writable.{opened_writable}
use Rattle.message_generator.proofs.writing.write_opened.Goals as goal

pub write_message-requires : goal.write_message-requires
write_message-requires c = rw c.in_ok-opened.ensures (opened_writable _ _)
