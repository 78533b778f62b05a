-- What stops a course stops it with more events too.
use Rattle.std.proofs.Common.{◌≡◌, ℕ, List, [], ◌∷◌, ◌++◌, Bool, true, false, refl, ap}
use Rattle.std.specs.Prelude.{Option, None, Some, if◌then◌else◌}
use Rattle.lsp_frame.specs.declared.frame.Cut.{Cut}
use Rattle.lsp_frame.specs.declared.frame.Cut.TheVariants.{NeedMore, Bad, Frame}
use Rattle.lsp_frame.specs.Frames.{cut_of, Frames, frame, rest, frames_from}
use Rattle.lsp_frame.specs.Rules.{message_of}
use Rattle.lsp_frame.specs.declared.message.Message.{Message}
use Rattle.session_port.specs.declared.event.HostEvent.{HostEvent}
use Rattle.session_port.specs.declared.event.HostEvent.TheVariants.{Bytes, Ended, Tasks, DeferredTask, Vfs}
use Rattle.session_port.specs.declared.event.HostEvent.TheVariants.{Flycheck, TestResult, DiscoverProject, Timer}
use Rattle.session_laws.specs.Course.{Course, Stop, takes, stops, waits, exit, is_exit, message_then, rest_then, frames_then, event_then, course_of}
use Rattle.session_laws.specs.Course.{session_course, stop_of}
use Rattle.session_laws.specs.Input.{Input}
use Rattle.session_laws.specs.Input.TheVariants.{Start}

-- where the first course stops, the second is the same
abbrev SameIfStopped : Course → Course → Type 0
SameIfStopped first second = (stop : Stop) → stop_of first ≡ Some stop → second ≡ first

stopped-none : (second : Course) → SameIfStopped waits second
stopped-none second = λ stop e. absurd cc

stopped-takes : (input : Input) (c d : Course) → SameIfStopped c d → SameIfStopped (takes input c) (takes input d)
stopped-takes input c d same = λ stop e. ap (takes input) (same stop e)

stopped-if : (b : Bool) (input : Input) (c d : Course) → SameIfStopped c d
    → SameIfStopped (if b then stops exit else takes input c) (if b then stops exit else takes input d)
stopped-if true input c d same = λ stop e. refl
stopped-if false input c d same = stopped-takes input c d same

stopped-message : (at : ℕ) (message : Option Message) (c d : Course) → SameIfStopped c d → SameIfStopped (message_then at message c) (message_then at message d)
stopped-message at None c d same = λ stop e. refl
stopped-message at (Some message) c d same = stopped-if (is_exit message) _ c d same

stopped-rest : (at : ℕ) (cut : Cut) (c d : Course) → SameIfStopped c d → SameIfStopped (rest_then at cut c) (rest_then at cut d)
stopped-rest at NeedMore c d same = same
stopped-rest at Bad c d same = λ stop e. refl
stopped-rest at (Frame start end) c d same = same

stopped-frames : (frames : Frames) (on more : ℕ → List ℕ → Course) → ((at : ℕ) (bytes : List ℕ) → SameIfStopped (on at bytes) (more at bytes))
    → SameIfStopped (frames_then frames on) (frames_then frames more)
stopped-frames (frame at body later) on more same =
    stopped-message at (message_of body) (frames_then later on) (frames_then later more) (stopped-frames later on more same)
stopped-frames (rest at bytes) on more same = stopped-rest at (cut_of bytes) (on at bytes) (more at bytes) (same at bytes)

stopped-event : (event : HostEvent) (held : List ℕ) (on more : List ℕ → Course) → ((bytes : List ℕ) → SameIfStopped (on bytes) (more bytes))
    → SameIfStopped (event_then event held on) (event_then event held more)
stopped-event (Bytes []) held on more same = stopped-takes _ (on held) (more held) (same held)
stopped-event (Bytes (byte ∷ bytes)) held on more same = same (held ++ byte ∷ bytes)
stopped-event (Tasks batch) held on more same = stopped-takes _ (on held) (more held) (same held)
stopped-event (DeferredTask tasks) held on more same = stopped-takes _ (on held) (more held) (same held)
stopped-event (Vfs messages) held on more same = stopped-takes _ (on held) (more held) (same held)
stopped-event (Flycheck messages) held on more same = stopped-takes _ (on held) (more held) (same held)
stopped-event (TestResult messages) held on more same = stopped-takes _ (on held) (more held) (same held)
stopped-event (DiscoverProject messages) held on more same = stopped-takes _ (on held) (more held) (same held)
stopped-event (Timer ticket) held on more same = stopped-takes _ (on held) (more held) (same held)
stopped-event Ended held on more same = λ stop e. refl

stopped-course : (events more : List HostEvent) (at : ℕ) (held : List ℕ) → SameIfStopped (course_of at held events) (course_of at held (events ++ more))
unfolding course_of
stopped-course [] [] at held = λ stop e. refl
stopped-course [] (event ∷ more) at held = stopped-frames (frames_from at held) _ _ (λ at bytes. stopped-none _)
stopped-course (event ∷ events) more at held =
    stopped-frames (frames_from at held) _ _ (λ at bytes. stopped-event event bytes _ _ (λ bytes. stopped-course events more at bytes))

-- a session's course that has stopped is the same with more events
pub stopped-session : (events more : List HostEvent) (at : ℕ) (held : List ℕ) (stop : Stop)
    → stop_of (session_course at held events) ≡ Some stop → session_course at held (events ++ more) ≡ session_course at held events
stopped-session events more at held stop e = ap (takes Start) (stopped-course events more at held stop e)
