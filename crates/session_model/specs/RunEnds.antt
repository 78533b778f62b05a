-- How a run ends: what its lists are then, what ended it, and when it ends well.
use Rattle.std.specs.Prelude.{◌≡◌, ◌≤◌, ◌<◌, ℕ, ◌+◌, ◌^◌, ◌⊎◌, List, [], ◌∷◌, ◌++◌, length, Option, Some, Result, Ok}
use Rattle.std.specs.Prelude.{Err}
use Rattle.lsp_frame.specs.Outgoing.{number_limit}
use Rattle.lsp_frame.specs.Reader.{Reader}
use Rattle.ra_config.specs.Config.{ConfigData}
use Rattle.session_port.specs.Record.{HostCall, given_in, taken_in}
use Rattle.session_port.specs.declared.command.Command.TheVariants.{Stop}
use Rattle.session_port.specs.declared.fault.Counter.{Counter}
use Rattle.session_port.specs.declared.fault.Counter.TheVariants.{Bytes, Discoveries, Files, Jobs, LoaderSettings}
use Rattle.session_port.specs.declared.fault.Counter.TheVariants.{Outgoing, Revisions, Turns}
use Rattle.desk.specs.Meaning.{Meaning}
use Rattle.session_model.specs.Course.{Course, Stop as CourseStop, takes, stops, waits, exit, client_gone}
use Rattle.session_model.specs.Course.{bad_frame, bad_message, bytes_brought, session_course}
use Rattle.session_model.specs.Inputs.{batch_of, file_count, message_count, turns_after}
use Rattle.session_model.specs.Machine.{step}
use Rattle.session_model.specs.OwnJobs.{own_jobs}
use Rattle.session_model.specs.Places.{Place, place_of_turns}
use Rattle.session_model.specs.Rows.{turn_row}
use Rattle.session_model.specs.Run.{Turn, turn_start, commands_of, fed_bytes, taking}
use Rattle.session_model.specs.declared.fault.SessionError.{SessionError}
use Rattle.session_model.specs.declared.fault.SessionError.TheVariants.{ClientExited, BadFrame, BadMessage, HostFault}
use Rattle.session_model.specs.declared.fault.SessionError.TheVariants.{WriteFault, Exhausted, NoMemory}
use Rattle.session_model.specs.declared.input.Input.{Input}

-- ---- what was taken

-- each turn's commands were taken by the host
abbrev pub AllTaken : List HostCall → List Turn → Type 0
AllTaken calls turns = taken_in calls ≡ commands_of turns

-- each turn's commands but those of the last one
pub record LastUntaken (calls : List HostCall) (turns : List Turn) : Type 0 where
  pub before : List Turn
  pub last : Turn
  pub split : turns ≡ before ++ last ∷ []
  pub taken : taken_in calls ≡ commands_of before

-- an input comes next, and this is true of it
pub record NextInput (left : Course) (P : Input → Type 0) : Type 0 where
  pub input : Input
  pub later : Course
  pub is : left ≡ takes input later
  pub needs : P input

-- ---- a counter at its end

-- so many numbers of each counter
pub record Numbers : Type 0 where
  pub turns : ℕ
  pub jobs : ℕ
  pub requests : ℕ
  pub revisions : ℕ
  pub files : ℕ
  -- of the workspaces, and of the settings that the loader gets
  pub versions : ℕ
  pub settings : ℕ

-- those that were given
abbrev pub given_at : Place → Numbers
given_at place = record {
  turns = place.desk.turns;
  jobs = place.desk.last_job;
  requests = place.rest.client.asked.given;
  revisions = place.revision;
  files = place.rest.files.table.first + length place.rest.files.table.paths;
  versions = place.rest.workspaces.version;
  settings = place.rest.workspaces.loader_version;
}

-- those that a turn may need. The start has no number and makes no switch. Jobs are those of the row and the session's
-- own. The client may be asked for its settings or to ask anew for what is wrong in files, to watch files, to show work
-- for each message and for crate data, to ask anew for four things that it shows, and for a button. The world may
-- change for each message of a batch, for a switch and for the files
abbrev pub needs_of : Meaning → Input → Place → Numbers
needs_of meaning input place = record {
  turns = turns_after input 0;
  jobs = length (turn_row meaning input place).jobs + length (own_jobs meaning input place.rest);
  requests = message_count input + 8;
  revisions = length (batch_of input) + 2;
  files = file_count input;
  versions = turns_after input 0;
  settings = turns_after input 0;
}

-- so many of a counter were given that with these there would be too many. No turn needs a discovery yet
abbrev pub AreTooMany : Numbers → Numbers → Counter → Type 0
AreTooMany given needs Turns = 2 ^ 64 ≤ given.turns + needs.turns
AreTooMany given needs Bytes = ⊥
AreTooMany given needs Jobs = 2 ^ 64 ≤ given.jobs + needs.jobs
AreTooMany given needs Revisions = 2 ^ 64 ≤ given.revisions + needs.revisions
AreTooMany given needs Outgoing = number_limit < given.requests + needs.requests
AreTooMany given needs Files = 2 ^ 32 ≤ given.files + needs.files
AreTooMany given needs LoaderSettings =
    (2 ^ 64 ≤ given.versions + needs.versions) ⊎ (2 ^ 32 ≤ given.settings + needs.settings)
AreTooMany given needs Discoveries = ⊥

-- the machine can't take the input, since one more of a counter is needed than there are
pub record NeedsMore (meaning : Meaning) (place : Place) (input : Input) (counter : Counter) : Type 0 where
  pub refused : step meaning input (turn_start place.rest) ≡ Err counter
  pub too_many : AreTooMany (given_at place) (needs_of meaning input place) counter

-- one more of a counter was needed than there are, by the turn of the next input, or for the bytes that were given
abbrev pub IsUsedUp : Meaning → ConfigData → Reader → List HostCall → List Turn → Course → Counter → Type 0
IsUsedUp meaning config reader calls turns left counter =
    NextInput left (λ input. NeedsMore meaning (place_of_turns meaning config turns) input counter)
    ⊎ ((counter ≡ Bytes) × (2 ^ 64 ≤ fed_bytes reader + bytes_brought (given_in calls)))

-- ---- the end of the lists

-- how the lists of a run end, and what is left of its course: for each result what ended the run
abbrev pub EndsAt : {T : Type 0} → Meaning → ConfigData → Reader → List HostCall → List Turn → Course
    → Result T SessionError → Type 0
EndsAt meaning config reader calls turns left (Ok x) =
    (taken_in calls ≡ commands_of turns ++ (Stop ∷ []) ∷ []) × (left ≡ stops exit)
EndsAt meaning config reader calls turns left (Err ClientExited) = AllTaken calls turns × (left ≡ stops client_gone)
EndsAt meaning config reader calls turns left (Err (BadFrame at)) = AllTaken calls turns × (left ≡ stops (bad_frame at))
EndsAt meaning config reader calls turns left (Err (BadMessage at)) =
    AllTaken calls turns × (left ≡ stops (bad_message at))
EndsAt meaning config reader calls turns left (Err HostFault) =
    (AllTaken calls turns × (left ≡ waits ⊎ left ≡ stops exit)) ⊎ LastUntaken calls turns
EndsAt meaning config reader calls turns left (Err WriteFault) =
    AllTaken calls turns × NextInput left (λ input. Unit {0})
EndsAt meaning config reader calls turns left (Err (Exhausted counter)) =
    AllTaken calls turns × IsUsedUp meaning config reader calls turns left counter
EndsAt meaning config reader calls turns left (Err NoMemory) = AllTaken calls turns ⊎ LastUntaken calls turns

-- ---- by what ends the course of the events

abbrev pub EndsCourse : {T : Type 0} → Result T SessionError → Option CourseStop → Type 0
EndsCourse (Ok x) end = end ≡ Some exit
EndsCourse (Err ClientExited) end = end ≡ Some client_gone
EndsCourse (Err (BadFrame at)) end = end ≡ Some (bad_frame at)
EndsCourse (Err (BadMessage at)) end = end ≡ Some (bad_message at)
EndsCourse (Err HostFault) end = Unit {0}
EndsCourse (Err WriteFault) end = Unit {0}
EndsCourse (Err (Exhausted counter)) end = Unit {0}
EndsCourse (Err NoMemory) end = Unit {0}

-- ---- good ends

-- after some turns, whose commands were all taken, one more of this counter was needed than there are
pub record RanOut (meaning : Meaning) (config : ConfigData) (reader : Reader) (calls : List HostCall)
    (counter : Counter) : Type 0 where
  pub turns : List Turn
  pub left : Course
  pub inputs : session_course reader.place reader.held (given_in calls) ≡ taking turns left
  pub taken : AllTaken calls turns
  pub used_up : IsUsedUp meaning config reader calls turns left counter

-- an end that a good input allows: `exit`, or that memory or the numbers of a counter ran out
abbrev pub IsGoodEnd : {T : Type 0} → Meaning → ConfigData → Reader → List HostCall → Result T SessionError → Type 0
IsGoodEnd meaning config reader calls (Ok x) = Unit {0}
IsGoodEnd meaning config reader calls (Err ClientExited) = ⊥
IsGoodEnd meaning config reader calls (Err (BadFrame at)) = ⊥
IsGoodEnd meaning config reader calls (Err (BadMessage at)) = ⊥
IsGoodEnd meaning config reader calls (Err HostFault) = ⊥
IsGoodEnd meaning config reader calls (Err WriteFault) = ⊥
IsGoodEnd meaning config reader calls (Err (Exhausted counter)) = RanOut meaning config reader calls counter
IsGoodEnd meaning config reader calls (Err NoMemory) = Unit {0}
