-- What a turn writes can be written.
use Rattle.std.proofs.Common.{List, [], ◌∷◌, ◌++◌}
use Rattle.lsp_frame.specs.Written.{AreWritable}
use Rattle.lsp_frame.specs.declared.message.Message.{Message}
use Rattle.session_port.specs.Written.{AllWritable}

pub writable_push : (messages : List Message) (message : Message) → AllWritable messages → AreWritable message → AllWritable (messages ++ message ∷ [])
writable_push [] message all one = (one, tt)
writable_push (m ∷ ms) message all one = (all.0, writable_push ms message all.1 one)
