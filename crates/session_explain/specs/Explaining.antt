-- A record that is written out for people.
use Rattle.std.specs.Prelude.{◌≡◌, ℕ, List, ⊤, Option, None, Result, Ok, Err}
use Rattle.session_port.specs.Record.{HostCall, Rose, added}
use Rattle.session_port.specs.declared.event.HostEvent.{HostEvent}
use Rattle.session_laws.specs.Meaning.{Meaning}
use Rattle.session_laws.specs.Run.{Told}
use Rattle.session_record.specs.declared.start.StartConfig.{StartConfig}
use Rattle.session_replay.specs.Recording.{IsWriteError}
use Rattle.session_replay.specs.Replaying.{ReadsRecord, RunsAgain}
use Rattle.session_replay.specs.declared.error.ReplayError.{ReplayError}

-- one text was written, by one turn; or nothing was, and why
abbrev pub WritesText : Option (List (List ℕ)) → Option (List (List ℕ)) → Type 0 → Result ⊤ ReplayError → Type 0
WritesText old new SinkFailed (Ok x) = (text : List ℕ) × (new ≡ added old text)
WritesText old new SinkFailed (Err error) = IsWriteError SinkFailed error × (new ≡ old)

-- the session of a record was run over a sink that tells nothing and never fails
pub record RanUnseen (meaning : Meaning) (begin : StartConfig) (events : List HostEvent) : Type 0 where
  pub calls : List HostCall
  pub outcome : Result ⊤ ReplayError
  pub runs : RunsAgain meaning begin events calls None None (Rose 0 0) outcome

abbrev pub ExplainsWhatWasRead : Meaning → Option (List (List ℕ)) → Option (List (List ℕ)) → Type 0
    → Result (StartConfig × List HostEvent) ReplayError → Result ⊤ ReplayError → Type 0
ExplainsWhatWasRead meaning old new SinkFailed (Ok session) res =
    RanUnseen meaning session.0 session.1 × WritesText old new SinkFailed res
ExplainsWhatWasRead meaning old new SinkFailed (Err error) res = (res ≡ Err error) × (new ≡ old)

-- a record was read, its session was run, and a text was written of it
pub record Explains (meaning : Meaning) (old new : Told) (HostFailed SinkFailed : Type 0) (res : Result ⊤ ReplayError)
    : Type 0 where
  pub read : Result (StartConfig × List HostEvent) ReplayError
  pub reads : ReadsRecord old.calls new.calls HostFailed read
  pub explained : ExplainsWhatWasRead meaning old.turns new.turns SinkFailed read res
