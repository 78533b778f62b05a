-- What a program does with its words.
use Rattle.std.specs.Prelude.{◌≡◌, ℕ, List, [], ◌∷◌, ◌++◌, Bool, codes, ⊤, Option, Some, Result, Ok, Err, if◌then◌else◌}
use Rattle.lsp_frame.specs.Reader.{Reader}
use Rattle.ra_config.specs.Config.{ConfigData, config_at}
use Rattle.session_port.specs.Record.{HostCall, given_in}
use Rattle.session_port.specs.declared.cause.HostError.{HostError}
use Rattle.session.specs.Course.{course_of, stop_of, exit}
use Rattle.session.specs.Headline.{EndsByCause}
use Rattle.session.specs.Ran.{RanSession}
use Rattle.session_record.specs.declared.start.StartConfig.{StartConfig}
use Rattle.session_record.specs.declared.start.StartConfig.TheVariants.{New}
use Rattle.session_generate.specs.Generating.{Generates}
use Rattle.session_replay.specs.Recording.{RecordsSession}
use Rattle.session_replay.specs.Replaying.{Replays}
use Rattle.session_replay.specs.declared.error.ReplayError.{ReplayError}
use Rattle.session.specs.Meaning.{Meaning}
use Rattle.session.specs.Run.{Told, empty_reader}
use Rattle.session.specs.SessionError.{SessionError}
use Rattle.session.specs.SessionError.TheVariants.{ClientExited, BadFrame, BadMessage, HostFault, WriteFault, Exhausted}
use Rattle.session.specs.SessionError.TheVariants.{NoMemory}
use Rattle.analysis_host.specs.declared.server_info.ServerInfo.{ServerInfo}
use Rattle.server.specs.Opening.{Opens}
use Rattle.server.specs.Stages.{Setup}
use Rattle.server.specs.declared.handshake.opening.Opening.{Opening}
use Rattle.server.specs.declared.handshake.opening.Opening.TheVariants.{Begun, Left}
use Rattle.server.specs.Status.{bad_words, status_of, status_of_generate, status_of_replay}
use Rattle.server.specs.declared.words.Asked.{Asked}
use Rattle.server.specs.declared.words.Asked.TheVariants.{Session, Lsp, Record as RecordWord, Replay as ReplayWord}
use Rattle.server.specs.declared.words.Asked.TheVariants.{Generate, Unknown}

-- how many threads the program's sessions may use
abbrev pub thread_count : ℕ
thread_count = 4

-- what their handshakes go by
abbrev pub setup_of : ServerInfo → Setup
setup_of info = record { threads = thread_count; info = info }

-- the settings of a session that begins without a handshake
abbrev pub session_config : ConfigData
session_config = config_at (codes "/w") thread_count

-- how such a session begins, as its record says it
abbrev pub session_start : StartConfig
session_start = New (codes "/w") thread_count

-- what follows a handshake: the session that it began, or nothing
abbrev pub Follows : Meaning → Told → Told → Bool → Type 0 → Type 0 → Result Opening SessionError
    → Result ⊤ SessionError → Type 0
Follows meaning old new honest HostFailed SinkFailed (Ok (Begun config reader)) outcome =
    RanSession meaning config reader old new honest HostFailed SinkFailed outcome
Follows meaning old new honest HostFailed SinkFailed (Ok Left) outcome = (new ≡ old) × (status_of outcome ≡ 0)
Follows meaning old new honest HostFailed SinkFailed (Err error) outcome = (new ≡ old) × (outcome ≡ Err error)

-- an end that a good input allows: `exit`, or that memory or the numbers of a counter ran out
abbrev pub IsGoodServe : Result ⊤ SessionError → Type 0
IsGoodServe (Ok x) = Unit {0}
IsGoodServe (Err ClientExited) = ⊥
IsGoodServe (Err (BadFrame at)) = ⊥
IsGoodServe (Err (BadMessage at)) = ⊥
IsGoodServe (Err HostFault) = ⊥
IsGoodServe (Err WriteFault) = ⊥
IsGoodServe (Err (Exhausted counter)) = Unit {0}
IsGoodServe (Err NoMemory) = Unit {0}

-- for a host that tells its calls: where the events hold an `exit` before all else that stops a session, and neither
-- the host nor the sink has
-- failed, it ends well
abbrev pub Completes : Option (List HostCall) → Option (List HostCall) → Type 0 → Type 0 → Result ⊤ SessionError
    → Type 0
Completes old new HostFailed SinkFailed outcome =
    (before calls : List HostCall) → old ≡ Some before → new ≡ Some (before ++ calls)
    → stop_of (course_of 0 [] (given_in calls)) ≡ Some exit
    → (HostFailed → ⊥) → (SinkFailed → ⊥) → IsGoodServe outcome

-- a handshake was made, and then a session was run with its settings, behind what it has read; what ended it is what
-- ends the course of all its events, of
-- the handshake and of the session
pub record Welcomed (info : ServerInfo) (meaning : Meaning) (old new : Told) (honest : Bool)
    (HostFailed SinkFailed : Type 0) (outcome : Result ⊤ SessionError) : Type 0 where
  pub opening : Result Opening SessionError
  pub middle : Told
  pub opens : Opens (setup_of info) old middle opening
  pub follows : Follows meaning middle new honest HostFailed SinkFailed opening outcome
  pub end : EndsByCause empty_reader old.calls new.calls outcome
  pub complete : Completes old.calls new.calls HostFailed SinkFailed outcome

-- the status is that of an end, of which this is true
pub record EndsWith (P : Result ⊤ SessionError → Type 0) (status : ℕ) : Type 0 where
  pub outcome : Result ⊤ SessionError
  pub status_is : status ≡ status_of outcome
  pub did : P outcome

-- the same of a session that is recorded, or run again
pub record EndsReplay (P : Result ⊤ ReplayError → Type 0) (status : ℕ) : Type 0 where
  pub outcome : Result ⊤ ReplayError
  pub status_is : status ≡ status_of_replay outcome
  pub did : P outcome

-- a session was generated, on a host of its own, and its summary written
pub record EndsGenerate (meaning : Meaning) (count : ℕ) (old new : Told) (SinkFailed : Type 0) (status : ℕ) : Type 0 where
  pub outcome : Result ⊤ HostError
  pub status_is : status ≡ status_of_generate outcome
  pub untouched : new.calls ≡ old.calls
  pub did : Generates meaning count old.turns new.turns SinkFailed outcome

-- or the words are none that the program knows, and nothing was read or written
pub record KnewNoWord (old new : Told) (status : ℕ) : Type 0 where
  pub status_is : status ≡ bad_words
  pub untouched : new ≡ old

-- by what the words ask for
abbrev pub Serves : Asked → ServerInfo → Meaning → Told → Told → Bool → Type 0 → Type 0 → ℕ → Type 0
Serves Session info meaning old new honest HostFailed SinkFailed status =
    EndsWith (RanSession meaning session_config empty_reader old new honest HostFailed SinkFailed) status
Serves Lsp info meaning old new honest HostFailed SinkFailed status =
    EndsWith (Welcomed info meaning old new honest HostFailed SinkFailed) status
Serves RecordWord info meaning old new honest HostFailed SinkFailed status =
    EndsReplay (RecordsSession meaning session_start session_config old new honest HostFailed SinkFailed) status
Serves ReplayWord info meaning old new honest HostFailed SinkFailed status =
    EndsReplay (Replays meaning old new HostFailed SinkFailed) status
Serves (Generate count) info meaning old new honest HostFailed SinkFailed status =
    EndsGenerate meaning count old new SinkFailed status
Serves Unknown info meaning old new honest HostFailed SinkFailed status = KnewNoWord old new status
