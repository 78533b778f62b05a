-- A whole handshake: what it took in, what it wrote, and how it ended.
use Rattle.std.specs.Prelude.{◌≡◌, ◌≤◌, ℕ, ◌-◌, ◌^◌, ◌⊎◌, List, [], ◌∷◌, ◌++◌, length, map, Some, Result, Ok, Err}
use Rattle.lsp_frame.specs.Reader.{Reader}
use Rattle.lsp_frame.specs.Written.{frame_for, body_of}
use Rattle.lsp_frame.specs.declared.message.Message.TheVariants.{Response as ResponseMessage}
use Rattle.lsp_frame.specs.declared.message.Response.{Response}
use Rattle.ra_config.specs.Config.{ConfigData}
use Rattle.session_port.specs.Record.{HostCall, gave, given_in, taken_in, grown}
use Rattle.session_port.specs.declared.command.Command.{Command}
use Rattle.session_port.specs.declared.event.HostEvent.{HostEvent}
use Rattle.session_laws.specs.Course.{Course, takes, stops, waits, exit, bad_frame, bad_message, client_gone, course_of}
use Rattle.session_laws.specs.Course.{bytes_brought}
use Rattle.session_laws.specs.Run.{Told, fed_bytes}
use Rattle.session_laws.specs.SessionError.{SessionError}
use Rattle.session_laws.specs.SessionError.TheVariants.{ClientExited, BadFrame, BadMessage, HostFault, WriteFault}
use Rattle.session_laws.specs.SessionError.TheVariants.{Exhausted, NoMemory}
use Rattle.session_laws.specs.Input.{Input}
use Rattle.session_port.specs.declared.fault.Counter.{Counter}
use Rattle.session_port.specs.declared.fault.Counter.TheVariants.{Turns, Bytes}
use Rattle.server.specs.Stages.{Setup, Stage, awaits_initialize, awaits_initialized, begun, by_input, stage_after}
use Rattle.server.specs.Stages.{replies_to}
use Rattle.server.specs.declared.handshake.opening.Opening.{Opening}
use Rattle.server.specs.declared.handshake.opening.Opening.TheVariants.{Begun, Left}

-- these inputs are taken, and then this comes
abbrev pub inputs_taken : List Input → Course → Course
inputs_taken [] later = later
inputs_taken (input ∷ inputs) later = takes input (inputs_taken inputs later)

-- the string of a reply: one frame
abbrev pub reply_bytes : Response → List ℕ
reply_bytes response = frame_for (body_of (ResponseMessage response))

-- these calls more were made of the host, and these replies were written, one string for each
abbrev pub replies_told : List HostCall → List Response → Told → Told
replies_told calls replies told = record {
  calls = grown told.calls calls;
  turns = grown told.turns (map reply_bytes replies);
}

-- what the host takes behind replies: an empty list of commands for each
abbrev pub handed_on : List Response → List (List Command)
handed_on replies = map (λ reply. []) replies

-- when an event was asked for: no whole message was held, each input so far had its reply, if it has one, and each
-- reply was handed on
pub record HadReplies (setup : Setup) (stage : Stage) (from : List HostEvent → Course) (before : List HostCall) : Type 0
  where
    pub inputs : List Input
    pub waiting : from (given_in before) ≡ inputs_taken inputs waits
    pub handed : taken_in before ≡ handed_on (replies_to setup stage inputs)

-- it was so for each event
abbrev pub RepliesComeFirst : Setup → Stage → (List HostEvent → Course) → List HostCall → Type 0
RepliesComeFirst setup stage from calls =
    (before : List HostCall) (event : HostEvent) (after : List HostCall) → calls ≡ before ++ gave event ∷ after
    → HadReplies setup stage from before

-- each reply to these inputs was handed on
abbrev pub AreHandedOn : Setup → List HostCall → List Input → Type 0
AreHandedOn setup calls inputs = taken_in calls ≡ handed_on (replies_to setup awaits_initialize inputs)

-- each but that to the last of them, which was written
pub record LastIsNot (setup : Setup) (calls : List HostCall) (inputs : List Input) : Type 0 where
  pub before : List Input
  pub last : Input
  pub split : inputs ≡ before ++ last ∷ []
  pub response : Response
  pub answered : (by_input setup (stage_after setup awaits_initialize before) last).reply ≡ Some response
  pub handed : AreHandedOn setup calls before

-- the host did not take an order: it failed, or memory ran out
abbrev pub IsHostError : SessionError → Type 0
IsHostError ClientExited = ⊥
IsHostError (BadFrame at) = ⊥
IsHostError (BadMessage at) = ⊥
IsHostError HostFault = Unit {0}
IsHostError WriteFault = ⊥
IsHostError (Exhausted counter) = ⊥
IsHostError NoMemory = Unit {0}

-- the handshake is not over
abbrev pub IsWaiting : Stage → Type 0
IsWaiting awaits_initialize = Unit {0}
IsWaiting (awaits_initialized config) = Unit {0}
IsWaiting (begun config) = ⊥

-- the last input was `initialized`, with these settings; the reader holds the bytes behind it, from where the course
-- goes on
pub record SessionBegins (setup : Setup) (events : List HostEvent) (inputs : List Input) (config : ConfigData)
    (reader : Reader) : Type 0 where
  pub before : List Input
  pub last : Input
  pub split : inputs ≡ before ++ last ∷ []
  pub waited : stage_after setup awaits_initialize before ≡ awaits_initialized config
  pub begins : stage_after setup awaits_initialize inputs ≡ begun config
  pub course : (more : List HostEvent) → course_of 0 [] (events ++ more) ≡ inputs_taken
      inputs (course_of reader.place reader.held more)
  pub fed : fed_bytes reader ≡ bytes_brought events

-- an input comes next that is answered
pub record NextAnswered (setup : Setup) (stage : Stage) (left : Course) : Type 0 where
  pub input : Input
  pub later : Course
  pub is : left ≡ takes input later
  pub response : Response
  pub answered : (by_input setup stage input).reply ≡ Some response

-- one event more was needed than can be counted, or there are more bytes
abbrev pub OpeningIsUsedUp : ℕ → ℕ → Course → Counter → Type 0
OpeningIsUsedUp events bytes left counter = ((counter ≡ Turns) × (events ≡ 2 ^ 64 - 1) × (left ≡ waits))
    ⊎ ((counter ≡ Bytes) × (2 ^ 64 ≤ bytes))

-- for each error its cause: by how many events and bytes came, what was waited for, and what is left of the course
abbrev pub LeftBy : Setup → ℕ → ℕ → Stage → Course → SessionError → Type 0
LeftBy setup events bytes stage left ClientExited = left ≡ stops client_gone
LeftBy setup events bytes stage left (BadFrame at) = left ≡ stops (bad_frame at)
LeftBy setup events bytes stage left (BadMessage at) = left ≡ stops (bad_message at)
LeftBy setup events bytes stage left HostFault = left ≡ waits
LeftBy setup events bytes stage left WriteFault = NextAnswered setup stage left
LeftBy setup events bytes stage left (Exhausted counter) = OpeningIsUsedUp events bytes left counter
LeftBy setup events bytes stage left NoMemory = Unit {0}

-- how a handshake ends, for each result
abbrev pub OpeningEndsAt : Setup → List HostCall → List Input → Course → Result Opening SessionError → Type 0
OpeningEndsAt setup calls inputs left (Ok (Begun config reader)) = AreHandedOn setup calls inputs
    × SessionBegins setup (given_in calls) inputs config reader
OpeningEndsAt setup calls inputs left (Ok Left) =
    AreHandedOn setup calls inputs × IsWaiting (stage_after setup awaits_initialize inputs) × (left ≡ stops exit)
OpeningEndsAt setup calls inputs left (Err error) =
    IsWaiting (stage_after setup awaits_initialize inputs)
    × ((AreHandedOn setup calls inputs
    × LeftBy setup (length (given_in calls)) (bytes_brought (given_in calls))
    (stage_after setup awaits_initialize inputs) left error)
    ⊎ (LastIsNot setup calls inputs × IsHostError error))

-- a whole handshake over a new host: the inputs are those of the events that were given, in order; each was answered by
-- the handshake's step, one string a
-- reply; each reply was written and handed on before the next event was asked for; and then it ended
pub record Opens (setup : Setup) (old new : Told) (result : Result Opening SessionError) : Type 0 where
  pub calls : List HostCall
  pub inputs : List Input
  pub told : new ≡ replies_told calls (replies_to setup awaits_initialize inputs) old
  pub asks : RepliesComeFirst setup awaits_initialize (course_of 0 []) calls
  pub left : Course
  pub course : course_of 0 [] (given_in calls) ≡ inputs_taken inputs left
  pub ends : OpeningEndsAt setup calls inputs left result
