use Rattle.session_replay.proofs.Again.{run-written}
use Rattle.session_replay.proofs.laws.sinks_tell_what_was_written.Goals as goal

pub returns : goal.returns
returns c = run-written
