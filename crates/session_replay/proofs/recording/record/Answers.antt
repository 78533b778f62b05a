use Rattle.session_replay.proofs.Recorded.{never-recorded}
use Rattle.session_replay.proofs.recording.record.Goals as goal

pub returns-in-Err-clause-records : goal.returns-in-Err-clause-records
returns-in-Err-clause-records g c = never-recorded _ _ _ _ _ _ _ _
