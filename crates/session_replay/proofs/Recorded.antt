-- What comes of a session that is recorded.
use Rattle.std.proofs.Common.{◌≡◌, ℕ, Bool, List, refl}
use Rattle.std.specs.Prelude.{⊤, Option, None, Result, Ok, Err, IfErr}
use Rattle.ra_config.specs.Config.{ConfigData}
use Rattle.session_port.specs.Record.{HostCall, added, after_ok}
use Rattle.session_laws.specs.Meaning.{Meaning}
use Rattle.session_laws.specs.Run.{told_of}
use Rattle.session_laws.specs.SessionError.TheVariants.{ClientExited, BadFrame, BadMessage, HostFault, WriteFault, Exhausted, NoMemory}
use Rattle.session.proofs.Unstarted.{unstarted}
use Rattle.session_record.specs.declared.start.StartConfig.{StartConfig}
use Rattle.session_replay.specs.Recording.{RecordsSession, IsRecordOfCalls, IsWriteError, KeepsRecord}
use Rattle.session_replay.specs.declared.error.ReplayError.{ReplayError}
use Rattle.session_replay.specs.declared.error.ReplayError.TheVariants.{Session, BadRecord, Unrecordable, TooLong}

-- a record was to be written by one turn
pub writes-record : (begin : StartConfig) (old new : Option (List HostCall)) (turns turns_now : Option (List (List ℕ))) (bytes : List ℕ) (SinkFailed : Type 0)
    (res : Result ⊤ ReplayError) → turns_now ≡ after_ok res (λ x. added turns bytes) turns → IfErr res (IsWriteError SinkFailed)
    → IsRecordOfCalls begin old new bytes → KeepsRecord begin (told_of old turns) (told_of new turns_now) SinkFailed res
writes-record begin old new turns turns_now bytes SinkFailed (Ok x) told why is = (bytes, (told, is))
writes-record begin old new turns turns_now bytes SinkFailed (Err (Session ClientExited)) told why is = absurd why
writes-record begin old new turns turns_now bytes SinkFailed (Err (Session (BadFrame at))) told why is = absurd why
writes-record begin old new turns turns_now bytes SinkFailed (Err (Session (BadMessage at))) told why is = absurd why
writes-record begin old new turns turns_now bytes SinkFailed (Err (Session HostFault)) told why is = absurd why
writes-record begin old new turns turns_now bytes SinkFailed (Err (Session WriteFault)) told why is = (why, told)
writes-record begin old new turns turns_now bytes SinkFailed (Err (Session (Exhausted counter))) told why is = absurd why
writes-record begin old new turns turns_now bytes SinkFailed (Err (Session NoMemory)) told why is = told
writes-record begin old new turns turns_now bytes SinkFailed (Err BadRecord) told why is = absurd why
writes-record begin old new turns turns_now bytes SinkFailed (Err Unrecordable) told why is = absurd why
writes-record begin old new turns turns_now bytes SinkFailed (Err TooLong) told why is = absurd why

-- memory ran out before the session could begin
pub never-recorded : (meaning : Meaning) (begin : StartConfig) (config : ConfigData) (calls : Option (List HostCall)) (turns : Option (List (List ℕ)))
    (honest : Bool) (HostFailed SinkFailed : Type 0)
    → RecordsSession meaning begin config (told_of calls turns) (told_of calls turns) honest HostFailed SinkFailed (Err (Session NoMemory))
never-recorded meaning begin config calls turns honest HostFailed SinkFailed = record {
  outcome = Err NoMemory;
  ran = unstarted meaning config (told_of calls None) honest HostFailed ⊥;
  after = (refl, refl);
}
