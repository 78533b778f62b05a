-- What the bytes held give next, how the course of events goes on behind it, and the bytes that come.
use Rattle.std.specs.Prelude.{◌≡◌, ◌≤◌, ◌<◌, ℕ, ◌+◌, ◌^◌, List, false}
use Rattle.lsp_frame.specs.declared.frame.Cut.TheVariants.{NeedMore}
use Rattle.lsp_frame.specs.Frames.{cut_of}
use Rattle.lsp_frame.specs.Reader.{Reader}
use Rattle.lsp_frame.specs.declared.message.Message.{Message}
use Rattle.session_port.specs.declared.event.HostEvent.{HostEvent}
use Rattle.session_laws.specs.Course.{Course, takes, stops, exit, bad_frame, bad_message, course_of}
use Rattle.session_laws.specs.Run.{fed_bytes}
use Rattle.session_port.specs.declared.fault.Counter.TheVariants.{Bytes as BytesCounter}
use Rattle.session_laws.specs.SessionError.{SessionError}
use Rattle.session_laws.specs.SessionError.TheVariants.{ClientExited, BadFrame, BadMessage, HostFault, WriteFault}
use Rattle.session_laws.specs.SessionError.TheVariants.{Exhausted, NoMemory}
use Rattle.session_laws.specs.Event.TheVariants.{Lsp}
use Rattle.session_laws.specs.Input.TheVariants.{Next as NextInput}
use Rattle.session.specs.declared.reading.Coming.{Coming}
use Rattle.session.specs.declared.reading.Coming.TheVariants.{Message as ComingMessage, Exit}
use Rattle.session.specs.declared.reading.Coming.TheVariants.{BadFrame as ComingBadFrame}
use Rattle.session.specs.declared.reading.Coming.TheVariants.{BadMessage as ComingBadMessage, Waits}

-- the course of the bytes that a reader holds, and of these events
abbrev pub course_from : Reader → List HostEvent → Course
course_from reader events = course_of reader.place reader.held events

-- a message is taken out, and the course goes on behind it
pub record TakesOut (old new : Reader) (message : Message) : Type 0 where
  pub course : (events : List HostEvent) → course_from old events ≡
      takes (NextInput (Lsp message)) (course_from new events)
  pub fed : fed_bytes new ≡ fed_bytes old
  pub later : old.place < new.place
  pub sound : new.failed ≡ false

-- nothing is taken out: more bytes are needed
pub record IsWaiting (old new : Reader) : Type 0 where
  pub partial : cut_of old.held ≡ NeedMore
  pub same : new ≡ old
  pub sound : old.failed ≡ false

abbrev pub IsNext : Reader → Reader → Coming → Type 0
IsNext old new (ComingMessage message) = TakesOut old new message
IsNext old new Exit = (events : List HostEvent) → course_from old events ≡ stops exit
IsNext old new (ComingBadFrame at) = (events : List HostEvent) → course_from old events ≡ stops (bad_frame at)
IsNext old new (ComingBadMessage at) = (events : List HostEvent) → course_from old events ≡ stops (bad_message at)
IsNext old new Waits = IsWaiting old new

-- why bytes could not be fed: there are more than can be counted, or memory ran out
abbrev pub IsFeedError : ℕ → ℕ → SessionError → Type 0
IsFeedError used more ClientExited = ⊥
IsFeedError used more (BadFrame at) = ⊥
IsFeedError used more (BadMessage at) = ⊥
IsFeedError used more HostFault = ⊥
IsFeedError used more WriteFault = ⊥
IsFeedError used more (Exhausted counter) = (counter ≡ BytesCounter) × (2 ^ 64 ≤ used + more)
IsFeedError used more NoMemory = Unit {0}
