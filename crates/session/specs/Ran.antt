-- What is promised of a session that was run.
use Rattle.std.specs.Prelude.{Bool, ⊤, Result}
use Rattle.lsp_frame.specs.Reader.{Reader}
use Rattle.ra_config.specs.Config.{ConfigData}
use Rattle.session_laws.specs.Headline.{IsAnswered, EndsByCause, IsComplete}
use Rattle.session_laws.specs.Meaning.{Meaning}
use Rattle.session_laws.specs.Run.{Told, IsRun}
use Rattle.session_laws.specs.SessionError.{SessionError}
use Rattle.trust_laws.specs.Resting.{IsTrusted}

-- a session was run behind what a reader holds: its turns are the machine's; its end has its cause in the events; over
-- a good input it is a good one, where neither the host nor the sink has failed; each request has its answer; and where
-- it rests it shows the present
pub record RanSession (meaning : Meaning) (config : ConfigData) (reader : Reader) (old new : Told) (honest : Bool)
    (HostFailed SinkFailed : Type 0)
    (outcome : Result ⊤ SessionError) : Type 0 where
  pub run : IsRun meaning config reader old new honest outcome
  pub end : EndsByCause reader old.calls new.calls outcome
  pub complete : IsComplete meaning config reader old.calls new.calls HostFailed SinkFailed outcome
  pub headline : IsAnswered meaning config reader old new honest outcome
  pub quiet : IsTrusted meaning config reader old new honest
