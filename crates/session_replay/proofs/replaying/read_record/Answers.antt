use Rattle.session_replay.proofs.Beginnings.{recorded-begins}
use Rattle.session_replay.proofs.replaying.read_record.Goals as goal

pub returns-in-Ok-decode-clause-begins : goal.returns-in-Ok-decode-clause-begins
returns-in-Ok-decode-clause-begins g c = recorded-begins c.in-Ok-decode.session.0 c.in-Ok-decode.session.1 c.in-Ok-decode.ensures.found.0
