-- What one step of the handshake's loop leaves.
use Rattle.std.specs.Prelude.{◌≡◌, ◌<◌, ◌⊎◌, ℕ, ◌+◌, ◌-◌, ◌^◌, false, List, [], ◌∷◌, ◌++◌, length, is_some, Option}
use Rattle.std.specs.Prelude.{None, Some, Result, Ok, Err}
use Rattle.lsp_frame.specs.Reader.{Reader}
use Rattle.lsp_frame.specs.Written.{AreWritable}
use Rattle.lsp_frame.specs.declared.message.Message.{Message}
use Rattle.lsp_frame.specs.declared.message.Message.TheVariants.{Response as ResponseMessage}
use Rattle.lsp_frame.specs.declared.message.Response.{Response}
use Rattle.ra_config.specs.Config.{ConfigData}
use Rattle.session_port.specs.Record.{HostCall, took, given_in, taken_in}
use Rattle.session_port.specs.declared.event.HostEvent.{HostEvent}
use Rattle.session_laws.specs.Course.{Course, takes, stops, exit, bytes_brought}
use Rattle.session_laws.specs.Run.{Told, MayAsk, empty_reader, fed_bytes, giving}
use Rattle.session_laws.specs.SessionError.{SessionError}
use Rattle.session_laws.specs.SessionError.TheVariants.{ClientExited, BadFrame, BadMessage, HostFault, WriteFault}
use Rattle.session_laws.specs.SessionError.TheVariants.{Exhausted, NoMemory}
use Rattle.session_laws.specs.Input.{Input}
use Rattle.session.specs.Reading.{course_from}
use Rattle.server.specs.Stages.{Setup, Stage, awaits_initialize, awaits_initialized, begun, by_input, by_message, quiet}
use Rattle.server.specs.Stages.{with_reply, stage_after, replies_to}
use Rattle.server.specs.Opening.{RepliesComeFirst, IsHostError, LeftBy, handed_on, inputs_taken, replies_told}
use Rattle.server.specs.declared.handshake.negotiation.Answer.{Answer}
use Rattle.server.specs.declared.handshake.negotiation.Answer.TheVariants.{Nothing, Reply, Begins}
use Rattle.server.specs.declared.handshake.negotiation.Negotiation.{Negotiation}
use Rattle.server.specs.declared.handshake.opening.Opening.{Opening}
use Rattle.server.specs.declared.handshake.opening.Opening.TheVariants.{Begun, Left}
use Rattle.server.specs.declared.handshake.opening.Talk.{Talk}
use Rattle.server.specs.declared.handshake.opening.Turned.{Turned}
use Rattle.server.specs.declared.handshake.opening.Turned.TheVariants.{Going, Started, Gone}

-- ---- a message

-- `initialize` has come exactly where there are settings
abbrev pub IsInStep : Negotiation → Type 0
IsInStep n = n.handshake ≡ is_some n.config

-- what is waited for, by the settings
abbrev pub stage_of : Option ConfigData → Stage
stage_of None = awaits_initialize
stage_of (Some config) = awaits_initialized config

-- what a message came to: the handshake's step
abbrev pub ComesTo : Setup → Option ConfigData → Message → Option ConfigData → Answer → Type 0
ComesTo setup old message new Nothing = by_message setup (stage_of old) message ≡ quiet (stage_of new)
ComesTo setup old message new (Reply response) =
    (by_message setup (stage_of old) message ≡ with_reply response (stage_of new))
    × AreWritable (ResponseMessage response)
ComesTo setup old message new (Begins config) = (by_message setup (stage_of old) message ≡ quiet (begun config))
    × (old ≡ Some config)

-- a fact of what goes on
abbrev pub IfWaiting : Answer → Type 0 → Type 0
IfWaiting Nothing P = P
IfWaiting (Reply response) P = P
IfWaiting (Begins config) P = Unit {0}

-- ---- the loop

-- a stretch of a handshake, in which the course goes on from one reader to another
pub record TalkStretch (setup : Setup) (before now : Talk) (old new : Told) : Type 0 where
  pub calls : List HostCall
  pub inputs : List Input
  pub course : (more : List HostEvent) → course_from before.reader (given_in calls ++ more) ≡ inputs_taken
      inputs (course_from now.reader more)
  pub stage : stage_of now.negotiation.config ≡ stage_after setup (stage_of before.negotiation.config) inputs
  pub told : new ≡ replies_told calls (replies_to setup (stage_of before.negotiation.config) inputs) old
  pub handed : taken_in calls ≡ handed_on (replies_to setup (stage_of before.negotiation.config) inputs)
  pub asks : RepliesComeFirst setup (stage_of before.negotiation.config) (course_from before.reader) calls
  pub fed : fed_bytes now.reader ≡ fed_bytes before.reader + bytes_brought (given_in calls)
  pub counted : now.events ≡ before.events + length (given_in calls)

-- what a loop that counts events and bytes has left
abbrev pub talk_left : Talk → ℕ
talk_left talk = (2 ^ 64 - talk.events) + (2 ^ 64 - talk.reader.place)

-- it goes on
pub record TalkGoes (setup : Setup) (before now : Talk) (old new : Told) : Type 0 where
  pub stretch : TalkStretch setup before now old new
  pub fewer : talk_left now < talk_left before
  pub in_step : IsInStep now.negotiation
  pub sound : now.reader.failed ≡ false
  pub fits : fed_bytes now.reader < 2 ^ 64

-- `initialized` came, with these settings
pub record Starts (setup : Setup) (before now : Talk) (config : ConfigData) (old new : Told) : Type 0 where
  pub input : Input
  pub waited : before.negotiation.config ≡ Some config
  pub begins : by_input setup (stage_of before.negotiation.config) input ≡ quiet (begun config)
  pub course : (more : List HostEvent) → course_from before.reader more ≡ takes input (course_from now.reader more)
  pub told : new ≡ old
  pub fed : fed_bytes now.reader ≡ fed_bytes before.reader

-- it breaks off: the host gave at most one event more, and what is left is the cause
pub record TalkBreaksOff (setup : Setup) (talk : Talk) (old new : Told) (error : SessionError) : Type 0 where
  pub events : List HostEvent
  pub asked : MayAsk (course_from talk.reader) events
  pub told : new ≡ replies_told (giving events) [] old
  pub left : LeftBy setup (talk.events + length events) (fed_bytes talk.reader + bytes_brought events)
      (stage_of talk.negotiation.config)
      (course_from talk.reader events) error

-- a message was answered, and the host did not take the order behind the reply
pub record NotHandedOn (setup : Setup) (talk : Talk) (old new : Told) (error : SessionError) : Type 0 where
  pub input : Input
  pub later : Course
  pub is : course_from talk.reader [] ≡ takes input later
  pub response : Response
  pub next : Option ConfigData
  pub answered : by_input setup (stage_of talk.negotiation.config) input ≡ with_reply response (stage_of next)
  pub told : new ≡ replies_told [] (response ∷ []) old
  pub fault : IsHostError error

abbrev pub Breaks : Setup → Talk → Told → Told → SessionError → Type 0
Breaks setup talk old new error = TalkBreaksOff setup talk old new error ⊎ NotHandedOn setup talk old new error

-- what came of the next event
abbrev pub TalkAdvancesByEvent : {T : Type 0} → Setup → Talk → Talk → Told → Told → Result T SessionError → Type 0
TalkAdvancesByEvent setup before now old new (Ok x) = TalkGoes setup before now old new
TalkAdvancesByEvent setup before now old new (Err error) = Breaks setup before old new error

abbrev pub TalkAdvances : Setup → Talk → Talk → Told → Told → Result Turned SessionError → Type 0
TalkAdvances setup before now old new (Ok Going) = TalkGoes setup before now old new
TalkAdvances setup before now old new (Ok (Started config)) = Starts setup before now config old new
TalkAdvances setup before now old new (Ok Gone) = (course_from before.reader [] ≡ stops exit) × (new ≡ old)
TalkAdvances setup before now old new (Err error) = Breaks setup before old new error

-- a reply could not be written
abbrev pub IsWriteError : SessionError → Type 0
IsWriteError ClientExited = ⊥
IsWriteError (BadFrame at) = ⊥
IsWriteError (BadMessage at) = ⊥
IsWriteError HostFault = ⊥
IsWriteError WriteFault = Unit {0}
IsWriteError (Exhausted counter) = ⊥
IsWriteError NoMemory = Unit {0}

-- what came of a reply: it was written and handed on, or was not written, or was written alone
abbrev pub IsReplied : {T : Type 0} → Response → Told → Told → Result T SessionError → Type 0
IsReplied response old new (Ok x) = new ≡ replies_told (took [] ∷ []) (response ∷ []) old
IsReplied response old new (Err ClientExited) = ⊥
IsReplied response old new (Err (BadFrame at)) = ⊥
IsReplied response old new (Err (BadMessage at)) = ⊥
IsReplied response old new (Err HostFault) = new ≡ replies_told [] (response ∷ []) old
IsReplied response old new (Err WriteFault) = new ≡ old
IsReplied response old new (Err (Exhausted counter)) = ⊥
IsReplied response old new (Err NoMemory) = (new ≡ old) ⊎ (new ≡ replies_told [] (response ∷ []) old)

-- before any message
abbrev pub first_talk : Talk
first_talk = record { reader = empty_reader; negotiation = record { handshake = false; config = None }; events = 0 }

-- how the handshake ends, by what a reader holds and the settings that came of the messages, if any came
abbrev pub opening_of : Reader → Result (Option ConfigData) SessionError → Result Opening SessionError
opening_of reader (Ok (Some config)) = Ok (Begun config reader)
opening_of reader (Ok None) = Ok Left
opening_of reader (Err error) = Err error
