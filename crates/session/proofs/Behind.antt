-- What an event brings, and how the course of the session goes on behind it.
use Rattle.std.proofs.Common.{◌≡◌, ℕ, ◌<◌, List, [], ◌∷◌, length, refl, arith}
use Rattle.session_port.specs.Events.{batch_in}
use Rattle.session_port.specs.declared.event.HostEvent.{HostEvent}
use Rattle.session_port.specs.declared.event.HostEvent.TheVariants.{Bytes, Tasks, Vfs, DeferredTask, Timer, Ended as HostEnded}
use Rattle.session_port.specs.declared.event.HostEvent.TheVariants.{Flycheck, TestResult, DiscoverProject}
use Rattle.lsp_frame.specs.Frames.{cut_of}
use Rattle.lsp_frame.specs.declared.frame.Cut.TheVariants.{NeedMore}
use Rattle.session_laws.specs.Course.{takes, course_of, bytes_brought}
use Rattle.session_laws.specs.Inputs.{batch_of}
use Rattle.session_laws.specs.Input.{Input}
use Rattle.session_laws.proofs.Counted.{IsLater}
use Rattle.session_laws.proofs.Courses.{course-event}
use Rattle.session.specs.Bringing.{brought_by}
use Rattle.session.specs.declared.bringing.Brought.{Brought}
use Rattle.session.specs.declared.bringing.Brought.TheVariants as brought

-- an event that brings an input
pub record BringsInput (event : HostEvent) (input : Input) : Type 0 where
  pub course : (at : ℕ) (held : List ℕ) → cut_of held ≡ NeedMore → (more : List HostEvent)
      → course_of at held (event ∷ more) ≡ takes input (course_of at held more)
  pub none : bytes_brought (event ∷ []) ≡ 0
  pub batch : batch_in event ≡ batch_of input
  pub later : IsLater input

-- an event that brings bytes
pub record BringsBytes (event : HostEvent) (bytes : List ℕ) : Type 0 where
  pub event_is : event ≡ Bytes bytes
  pub some : 0 < length bytes

abbrev pub IsBrought : HostEvent → Brought → Type 0
IsBrought event (brought.Input input) = BringsInput event input
IsBrought event (brought.Fed bytes) = BringsBytes event bytes
IsBrought event brought.Ended = event ≡ HostEnded

pub is-brought : (event : HostEvent) → IsBrought event (brought_by event)
is-brought (Bytes []) = record { course = λ at held waits more. course-event at held (Bytes []) more waits; none = refl; batch = refl; later = tt }
is-brought (Bytes (byte ∷ bytes)) = record { event_is = refl; some = omega arith }
is-brought (Tasks batch) = record { course = λ at held waits more. course-event at held (Tasks batch) more waits; none = refl; batch = refl; later = tt }
is-brought (Vfs messages) = record { course = λ at held waits more. course-event at held (Vfs messages) more waits; none = refl; batch = refl; later = tt }
is-brought (DeferredTask tasks) = record {
  course = λ at held waits more. course-event at held (DeferredTask tasks) more waits;
  none = refl;
  batch = refl;
  later = tt;
}
is-brought (Flycheck messages) = record { course = λ at held waits more. course-event at held (Flycheck messages) more waits; none = refl; batch = refl; later = tt }
is-brought (TestResult messages) = record { course = λ at held waits more. course-event at held (TestResult messages) more waits; none = refl; batch = refl; later = tt }
is-brought (DiscoverProject messages) = record { course = λ at held waits more. course-event at held (DiscoverProject messages) more waits; none = refl; batch = refl; later = tt }
is-brought (Timer ticket) = record { course = λ at held waits more. course-event at held (Timer ticket) more waits; none = refl; batch = refl; later = tt }
is-brought HostEnded = refl
