use denote.Param.Send.{sendable}
use Rattle.send_sync.proofs.command_is_sent.Goals as goal
use Rattle.send_sync.proofs.Sent.{sends}

pub sends-requires-send-T : goal.sends-requires-send-T
sends-requires-send-T c κs = search (sends, sendable) depth 20 fits 20000
