use Rattle.session_replay.proofs.Recorded.{never-recorded}
use Rattle.server.proofs.serving.run_record.Goals as goal

pub returns-in-Err-clause-records : goal.returns-in-Err-clause-records
returns-in-Err-clause-records g c = never-recorded _ _ _ _ _ _ _ _

pub returns-in-Ok-None-clause-records : goal.returns-in-Ok-None-clause-records
returns-in-Ok-None-clause-records g c = never-recorded _ _ _ _ _ _ _ _
