use denote.Param.Send.{sendable}
use Rattle.send_sync.proofs.settings_are_shared.Goals as goal
use Rattle.send_sync.proofs.Sent.{syncs}

pub shares-requires-sync-T : goal.shares-requires-sync-T
shares-requires-sync-T c κs = search (syncs, sendable) depth 20 fits 20000
