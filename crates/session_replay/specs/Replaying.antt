-- A record that is read, and its session that is run again.
use Rattle.std.specs.Prelude.{◌≡◌, ℕ, List, [], ◌++◌, true, false, ⊤, Option, Some, Result, Ok, Err, replicate}
use Rattle.ra_config.specs.Config.{ConfigData}
use Rattle.session_port.specs.Record.{HostCall, given_in}
use Rattle.session_port.specs.declared.event.HostEvent.{HostEvent}
use Rattle.session_port.specs.declared.event.HostEvent.TheVariants.{Ended}
use Rattle.session_laws.specs.Meaning.{Meaning}
use Rattle.session_laws.specs.Run.{Told, empty_reader, told_of}
use Rattle.session_laws.specs.SessionError.{SessionError}
use Rattle.session_laws.specs.SessionError.TheVariants.{NoMemory}
use Rattle.session.specs.Ran.{RanSession}
use Rattle.session_record.specs.Record.{recorded, can_be_recorded}
use Rattle.session_record.specs.declared.start.StartConfig.{StartConfig}
use Rattle.session_replay.specs.Beginning.{config_of}
use Rattle.session_replay.specs.Gathering.{Gathers}
use Rattle.session_replay.specs.declared.error.ReplayError.{ReplayError}
use Rattle.session_replay.specs.declared.error.ReplayError.TheVariants.{Session, BadRecord, Unrecordable, TooLong}

-- what is read of bytes: the session whose record they are; or they are no record; or memory ran out
abbrev pub IsReadOf : List ℕ → Result (StartConfig × List HostEvent) ReplayError → Type 0
IsReadOf bytes (Ok session) =
    (can_be_recorded session.0 session.1 ≡ true) × (bytes ≡ recorded session.0 session.1)
IsReadOf bytes (Err (Session error)) = error ≡ NoMemory
IsReadOf bytes (Err BadRecord) =
    (begin : StartConfig) (events : List HostEvent) → can_be_recorded begin events ≡ true
    → bytes ≡ recorded begin events → ⊥
IsReadOf bytes (Err Unrecordable) = ⊥
IsReadOf bytes (Err TooLong) = ⊥

-- the same, where the bytes are those that were gathered, if they were
abbrev pub ReadBy : Result (List ℕ) ReplayError → Result (StartConfig × List HostEvent) ReplayError → Type 0
ReadBy (Ok bytes) res = IsReadOf bytes res
ReadBy (Err error) res = res ≡ Err error

-- all bytes were taken up to the end, and then this was read of them
pub record ReadsRecord (old new : Option (List HostCall)) (HostFailed : Type 0)
    (res : Result (StartConfig × List HostEvent) ReplayError) : Type 0 where
  pub gathered : Result (List ℕ) ReplayError
  pub gathers : Gathers old new HostFailed gathered
  pub reads : ReadBy gathered res

abbrev pub replay_result : Result ⊤ SessionError → Result ⊤ ReplayError
replay_result (Ok x) = Ok x
replay_result (Err error) = Err (Session error)

-- the session of a record was run, with all that is promised of one, over a new host that gives the record's events and
-- then ends; these were the calls
pub record RunsAgain (meaning : Meaning) (begin : StartConfig) (events : List HostEvent) (calls : List HostCall)
    (old new : Option (List (List ℕ))) (SinkFailed : Type 0) (res : Result ⊤ ReplayError) : Type 0 where
  pub config : ConfigData
  pub config_is : config_of begin ≡ Some config
  pub left : List HostEvent
  pub ends : ℕ
  pub gives : given_in calls ++ left ≡ events ++ replicate ends Ended
  pub outcome : Result ⊤ SessionError
  pub result_is : res ≡ replay_result outcome
  pub ran : RanSession meaning config empty_reader (told_of (Some []) old) (told_of (Some calls) new) false ⊥ SinkFailed
      outcome

-- what follows what was read: its session was run, or nothing was written
abbrev pub RunsWhatWasRead : Meaning → Option (List (List ℕ)) → Option (List (List ℕ)) → Type 0
    → Result (StartConfig × List HostEvent) ReplayError → Result ⊤ ReplayError → Type 0
RunsWhatWasRead meaning old new SinkFailed (Ok session) res =
    (calls : List HostCall) × RunsAgain meaning session.0 session.1 calls old new SinkFailed res
RunsWhatWasRead meaning old new SinkFailed (Err error) res = (res ≡ Err error) × (new ≡ old)

-- a record was read, and its session was run
pub record Replays (meaning : Meaning) (old new : Told) (HostFailed SinkFailed : Type 0) (res : Result ⊤ ReplayError)
    : Type 0 where
  pub read : Result (StartConfig × List HostEvent) ReplayError
  pub reads : ReadsRecord old.calls new.calls HostFailed read
  pub runs : RunsWhatWasRead meaning old.turns new.turns SinkFailed read res
