-- What a host, a sink and a source record.
use Rattle.std.specs.Prelude.{◌≡◌, ◌≤◌, ◌<◌, ℕ, ◌+◌, ◌-◌, ◌^◌, min, List, [], ◌∷◌, ◌++◌, length, Option, None, Some}
use Rattle.std.specs.Prelude.{Result, Ok, Err}
use Rattle.std.specs.FinMap as map
use Rattle.std.specs.List.{filter_map}
use Rattle.session_port.specs.Events.{batch_in, job_of}
use Rattle.session_port.specs.Jobs.{Jobs, after_batch}
use Rattle.session_port.specs.declared.cause.HostError.{HostError}
use Rattle.session_port.specs.declared.cause.HostError.TheVariants.{Failed, NoMemory}
use Rattle.session_port.specs.declared.command.Command.{Command}
use Rattle.session_port.specs.declared.event.HostEvent.{HostEvent}
use Rattle.session_port.specs.declared.event.HostEvent.TheVariants.{Ended}
use Rattle.session_port.specs.declared.job.Job.{Job}

-- a record with more entries, if there is a record
abbrev pub grown : {X : Type 0} → Option (List X) → List X → Option (List X)
grown None more = None
grown (Some entries) more = Some (entries ++ more)

-- a record with one more entry
abbrev pub added : {X : Type 0} → Option (List X) → X → Option (List X)
added kept x = grown kept (x ∷ [])

-- what is so after a call, by its result
abbrev pub after_ok : {T E X : Type 0} → Result T E → (T → X) → X → X
after_ok (Ok x) f old = f x
after_ok (Err e) f old = old

-- one call of a host: it gave an event, or it took a turn's commands
pub data HostCall : Type 0 where
  gave : HostEvent → HostCall
  took : List Command → HostCall

-- the events that were given by calls, and the commands that were taken
abbrev pub given_in : List HostCall → List HostEvent
given_in [] = []
given_in (gave event ∷ calls) = event ∷ given_in calls
given_in (took commands ∷ calls) = given_in calls

abbrev pub taken_in : List HostCall → List (List Command)
taken_in [] = []
taken_in (gave event ∷ calls) = taken_in calls
taken_in (took commands ∷ calls) = commands ∷ taken_in calls

-- a fact of what follows an event, which is none where it was the end
abbrev pub UnlessEnded : HostEvent → Type 0 → Type 0
UnlessEnded Ended P = Unit {0}
UnlessEnded other P = P

-- the jobs out after an event
abbrev pub after_event : HostEvent → Jobs → Jobs
after_event event out = after_batch (batch_in event) out

abbrev pub after_given : {E : Type 0} → Result HostEvent E → Jobs → Jobs
after_given result out = after_ok result (λ event. after_event event out) out

-- the jobs that commands hand over
abbrev pub spawned : List Command → List Job
spawned commands = filter_map job_of commands

-- the jobs out with more jobs, each at its number
abbrev pub with_jobs : List Job → Jobs → Jobs
with_jobs [] out = out
with_jobs (job ∷ jobs) out = with_jobs jobs (map.insert out job.number job)

abbrev pub after_order : List Command → Jobs → Jobs
after_order commands out = with_jobs (spawned commands) out

-- each job's number is above the one before it
abbrev pub AreRising : ℕ → List Job → Type 0
AreRising low [] = Unit {0}
AreRising low (job ∷ jobs) = (low < job.number) × AreRising job.number jobs

-- the number of the last job, else the one before
abbrev pub last_number : ℕ → List Job → ℕ
last_number low [] = low
last_number low (job ∷ jobs) = last_number job.number jobs

-- a count that has risen, or stands at the greatest number of 64 bits
abbrev pub Rose : ℕ → ℕ → Type 0
Rose before now = min (before + 1) (2 ^ 64 - 1) ≤ now

-- a count of faults rises where a call fails, and stays as it is elsewhere
abbrev pub HasCause : {T : Type 0} → ℕ → ℕ → Result T HostError → Type 0
HasCause before now (Ok x) = now ≡ before
HasCause before now (Err Failed) = (before ≤ now) × Rose before now
HasCause before now (Err NoMemory) = now ≡ before

-- what a source held before a piece, given the piece and what it holds now
abbrev pub before_piece : List ℕ → Option (List ℕ) → Option (List ℕ)
before_piece piece None = None
before_piece piece (Some left) = Some (piece ++ left)

-- a piece of at most so many bytes, or the end, which comes only where nothing is left
abbrev pub IsPiece : ℕ → Option (List ℕ) → Option (List ℕ) → Option (List ℕ) → Type 0
IsPiece most old new None = (new ≡ old) × ((left : List ℕ) → old ≡ Some left → left ≡ [])
IsPiece most old new (Some piece) = (0 < length piece) × (length piece ≤ most) × (old ≡ before_piece piece new)
