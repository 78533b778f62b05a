-- A session that is recorded.
use Rattle.std.specs.Prelude.{◌≡◌, ℕ, List, ◌++◌, Bool, false, ⊤, Option, None, Some, Result, Ok, Err}
use Rattle.ra_config.specs.Config.{ConfigData}
use Rattle.session_port.specs.Record.{HostCall, added, given_in}
use Rattle.session_laws.specs.Meaning.{Meaning}
use Rattle.session_laws.specs.Run.{Told, empty_reader, told_of}
use Rattle.session_laws.specs.SessionError.{SessionError}
use Rattle.session_laws.specs.SessionError.TheVariants.{ClientExited, BadFrame, BadMessage, HostFault, WriteFault}
use Rattle.session_laws.specs.SessionError.TheVariants.{Exhausted, NoMemory}
use Rattle.session.specs.Ran.{RanSession}
use Rattle.session_record.specs.Record.{IsRecordOf, can_be_recorded}
use Rattle.session_record.specs.declared.start.StartConfig.{StartConfig}
use Rattle.session_replay.specs.declared.error.ReplayError.{ReplayError}
use Rattle.session_replay.specs.declared.error.ReplayError.TheVariants.{Session, BadRecord, Unrecordable, TooLong}

-- the record of a session that began so and had the events that a host gave, if the host tells these
abbrev pub IsRecordOfCalls : StartConfig → Option (List HostCall) → Option (List HostCall) → List ℕ → Type 0
IsRecordOfCalls begin old new bytes =
    (before calls : List HostCall) → old ≡ Some before → new ≡ Some (before ++ calls)
    → IsRecordOf begin (given_in calls) bytes

-- that session has no record
abbrev pub HasNoRecord : StartConfig → Option (List HostCall) → Option (List HostCall) → Type 0
HasNoRecord begin old new =
    (before calls : List HostCall) → old ≡ Some before → new ≡ Some (before ++ calls)
    → can_be_recorded begin (given_in calls) ≡ false

-- why one turn could not be written: the sink failed, or memory ran out
abbrev pub IsWriteError : Type 0 → ReplayError → Type 0
IsWriteError SinkFailed (Session ClientExited) = ⊥
IsWriteError SinkFailed (Session (BadFrame at)) = ⊥
IsWriteError SinkFailed (Session (BadMessage at)) = ⊥
IsWriteError SinkFailed (Session HostFault) = ⊥
IsWriteError SinkFailed (Session WriteFault) = SinkFailed
IsWriteError SinkFailed (Session (Exhausted counter)) = ⊥
IsWriteError SinkFailed (Session NoMemory) = Unit {0}
IsWriteError SinkFailed BadRecord = ⊥
IsWriteError SinkFailed Unrecordable = ⊥
IsWriteError SinkFailed TooLong = ⊥

-- what came of the record of a session that ended by `exit`: it was written by one turn, or nothing was written
abbrev pub KeepsRecord : StartConfig → Told → Told → Type 0 → Result ⊤ ReplayError → Type 0
KeepsRecord begin old new SinkFailed (Ok x) =
    (bytes : List ℕ) × ((new.turns ≡ added old.turns bytes) × IsRecordOfCalls begin old.calls new.calls bytes)
KeepsRecord begin old new SinkFailed (Err (Session ClientExited)) = ⊥
KeepsRecord begin old new SinkFailed (Err (Session (BadFrame at))) = ⊥
KeepsRecord begin old new SinkFailed (Err (Session (BadMessage at))) = ⊥
KeepsRecord begin old new SinkFailed (Err (Session HostFault)) = ⊥
KeepsRecord begin old new SinkFailed (Err (Session WriteFault)) = SinkFailed × (new.turns ≡ old.turns)
KeepsRecord begin old new SinkFailed (Err (Session (Exhausted counter))) = ⊥
KeepsRecord begin old new SinkFailed (Err (Session NoMemory)) = new.turns ≡ old.turns
KeepsRecord begin old new SinkFailed (Err BadRecord) = ⊥
KeepsRecord begin old new SinkFailed (Err Unrecordable) =
    HasNoRecord begin old.calls new.calls × (new.turns ≡ old.turns)
KeepsRecord begin old new SinkFailed (Err TooLong) = ⊥

-- what follows a session that is recorded: its record, where it ended by `exit`, else nothing
abbrev pub AfterSession : StartConfig → Told → Told → Type 0 → Result ⊤ SessionError → Result ⊤ ReplayError → Type 0
AfterSession begin old new SinkFailed (Ok x) res = KeepsRecord begin old new SinkFailed res
AfterSession begin old new SinkFailed (Err error) res = (res ≡ Err (Session error)) × (new.turns ≡ old.turns)

-- a session was run over the host, with all that is promised of one; nobody kept what it wrote; and then this came of
-- its record
pub record RecordsSession (meaning : Meaning) (begin : StartConfig) (config : ConfigData) (old new : Told) (honest : Bool)
    (HostFailed SinkFailed : Type 0)
    (res : Result ⊤ ReplayError) : Type 0 where
  pub outcome : Result ⊤ SessionError
  pub ran : RanSession meaning config empty_reader (told_of old.calls None) (told_of new.calls None) honest HostFailed ⊥
      outcome
  pub after : AfterSession begin old new SinkFailed outcome res
