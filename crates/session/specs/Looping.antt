-- What one step of the loop leaves.
use Rattle.std.specs.Prelude.{◌≡◌, ◌≤◌, ◌<◌, ◌⊎◌, ℕ, ◌+◌, ◌-◌, ◌^◌, List, [], ◌∷◌, length, Bool, Result, Ok, Err}
use Rattle.lsp_frame.specs.Reader.{Reader}
use Rattle.session_port.specs.Jobs.{Jobs}
use Rattle.session_port.specs.Record.{took, after_order}
use Rattle.session_laws.specs.Machine.{step}
use Rattle.session_laws.specs.Meaning.{Meaning}
use Rattle.session_laws.specs.Run.{Turn, Told, Steps, Stretch, Ends, EndsWell, EndsBy, turn_start, commands_of}
use Rattle.session_laws.specs.Run.{fed_bytes, telling_more}
use Rattle.session_laws.specs.State.{State}
use Rattle.session_port.specs.Written.{AreRead}
use Rattle.session_laws.specs.SessionError.{SessionError}
use Rattle.session_laws.specs.SessionError.TheVariants.{ClientExited, BadFrame, BadMessage, HostFault, WriteFault}
use Rattle.session_laws.specs.SessionError.TheVariants.{Exhausted, NoMemory}
use Rattle.session_laws.specs.Input.{Input}
use Rattle.session.specs.Reading.{course_from}
use Rattle.session.specs.declared.run.Turned.{Turned}
use Rattle.session.specs.declared.run.Turned.TheVariants.{Going, Stopped}

-- a turn whose input was just given: it was written, and its commands were taken
pub record Done (meaning : Meaning) (input : Input) (before now : State) (old new : Told) (out out_now : Jobs) : Type 0
  where
    pub turn : Turn
    pub input_is : turn.input ≡ input
    pub steps : Steps meaning before turn now
    pub read : AreRead turn.messages
    pub told : new ≡ telling_more (took turn.commands ∷ []) (turn ∷ []) old
    pub out_is : out_now ≡ after_order turn.commands out

-- the turn was written, and its commands were not taken
pub record Untaken (meaning : Meaning) (input : Input) (before now : State) (old new : Told) : Type 0 where
  pub turn : Turn
  pub input_is : turn.input ≡ input
  pub steps : Steps meaning before turn now
  pub read : AreRead turn.messages
  pub told : new ≡ telling_more [] (turn ∷ []) old

abbrev pub TurnDone : {T : Type 0} → Meaning → Input → State → State → Told → Told → Jobs → Jobs → Result T SessionError
    → Type 0
TurnDone meaning input before now old new out out_now (Ok x) = Done meaning input before now old new out out_now
TurnDone meaning input before now old new out out_now (Err (Exhausted counter)) = (new ≡ old)
    × (step meaning input (turn_start before) ≡ Err counter)
TurnDone meaning input before now old new out out_now (Err ClientExited) = ⊥
TurnDone meaning input before now old new out out_now (Err (BadFrame at)) = ⊥
TurnDone meaning input before now old new out out_now (Err (BadMessage at)) = ⊥
TurnDone meaning input before now old new out out_now (Err HostFault) = Untaken meaning input before now old new
TurnDone meaning input before now old new out out_now (Err WriteFault) = new ≡ old
TurnDone meaning input before now old new out out_now (Err NoMemory) = new ≡ old
    ⊎ Untaken meaning input before now old new

-- what a loop that counts turns and bytes has left
abbrev pub left_of : State → ℕ → ℕ
left_of state used = (2 ^ 64 - state.desk.turns) + (2 ^ 64 - used)

-- a stretch from which the run goes on
pub record Goes (meaning : Meaning) (before now : State) (reader reader_now : Reader) (old new : Told) (honest : Bool)
    (out out_now : Jobs) : Type 0 where
  pub stretch : Stretch meaning before now (course_from reader) (course_from reader_now) (fed_bytes reader)
      (fed_bytes reader_now) old new honest out out_now
  pub fewer : left_of now (fed_bytes reader_now) < left_of before (fed_bytes reader)

-- what came of the next event
abbrev pub AdvancesByEvent : {T : Type 0} → Meaning → State → State → Reader → Reader → Told → Told → Bool → Jobs → Jobs
    → Result T SessionError → Type 0
AdvancesByEvent meaning before now reader reader_now old new honest out out_now (Ok x) =
    Goes meaning before now reader reader_now old new honest out out_now
AdvancesByEvent meaning before now reader reader_now old new honest out out_now (Err e) =
    EndsBy meaning before (course_from reader) (fed_bytes reader) old new honest out e

abbrev pub Advances : Meaning → State → State → Reader → Reader → Told → Told → Bool → Jobs → Jobs
    → Result Turned SessionError → Type 0
Advances meaning before now reader reader_now old new honest out out_now (Ok Going) =
    Goes meaning before now reader reader_now old new honest out out_now
Advances meaning before now reader reader_now old new honest out out_now (Ok Stopped) =
    EndsWell (course_from reader) old new
Advances meaning before now reader reader_now old new honest out out_now (Err e) =
    EndsBy meaning before (course_from reader) (fed_bytes reader) old new honest out e

-- the rest of a run, from a state, a reader and jobs that are out: a stretch, and how it ended
pub record RunsOn {T : Type 0} (meaning : Meaning) (before : State) (reader : Reader) (old new : Told) (honest : Bool)
    (out : Jobs) (result : Result T SessionError) : Type 0 where
  pub last : State
  pub reader_last : Reader
  pub told_last : Told
  pub out_last : Jobs
  pub stretch : Stretch meaning before last (course_from reader) (course_from reader_last) (fed_bytes reader)
      (fed_bytes reader_last) old told_last honest out out_last
  pub ends : Ends meaning last (course_from reader_last) (fed_bytes reader_last) told_last new honest out_last result
