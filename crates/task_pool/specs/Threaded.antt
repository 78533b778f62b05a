-- What the host with threads is, and what it gives.
use Rattle.std.specs.Prelude.{◌≡◌, ◌≤◌, ℕ, Bool, true, List, [], ◌∷◌, ◌++◌, Option, None, Some}
use Rattle.std.specs.FinMap as map
use Rattle.analysis_host.specs.Answers.{OutcomeSpec}
use Rattle.analysis_host.specs.SnapshotData.{SnapshotData}
use Rattle.analysis_host.specs.declared.ask.Ask.{Ask}
use Rattle.host_orders.specs.HostOrders.{after_next}
use Rattle.inbox.specs.Given.{BeginsWith, IsAll}
use Rattle.inline_host.specs.Orders.{Orders, next_answer}
use Rattle.session_port.specs.Honest.{IsResultOf}
use Rattle.session_port.specs.Jobs.{Jobs, final_of, fits_job}
use Rattle.session_port.specs.Record.{HostCall, added, after_event, gave}
use Rattle.session_port.specs.Runs.{IfCancelled, IsFinal}
use Rattle.session_port.specs.declared.event.HostEvent.{HostEvent}
use Rattle.session_port.specs.declared.event.HostEvent.TheVariants.{Bytes, Ended, Tasks}
use Rattle.session_port.specs.declared.event.TaskMsg.{TaskMsg}
use Rattle.session_port.specs.declared.job.Job.{Job}
use Rattle.task_pool.specs.Waiting.{WaitingData}

pub record ThreadedData : Type 0 where
  -- the jobs out, by their numbers, and the number of the last one that came
  pub out : Jobs
  pub last_job : ℕ
  -- those of them that wait for a thread
  pub waiting : WaitingData
  -- the orders that are not answered yet
  pub orders : Orders
  -- the bytes that the source held at the start, if it tells, and those given of them
  pub held : Option (List ℕ)
  pub taken : List ℕ
  -- the greatest revision that was ordered
  pub revision : ℕ
  pub calls : Option (List HostCall)
  pub faults : ℕ
  pub poisoned : Bool

-- one result of one job out, of its kind, by the analysis's answers on the job's snapshot. A revision that it saw was ordered
pub record IsOneResult (answer : SnapshotData → Ask → OutcomeSpec) (out : Jobs) (revision : ℕ) (batch : List TaskMsg) : Type 0 where
  pub message : TaskMsg
  pub one : batch ≡ message ∷ []
  pub job : Job
  pub is_out : map.get out message.job ≡ Some job
  pub is : IsFinal (final_of message.body) (IsResultOf answer job)
  pub fits : fits_job job message.body ≡ true
  pub saw : IsFinal (final_of message.body) (λ result. IfCancelled result (λ saw. saw ≤ revision))

-- an entry of the inbox is given only where no order waits for its answer, and an answer only where it is due
abbrev pub Comes : (SnapshotData → Ask → OutcomeSpec) → ThreadedData → HostEvent → Type 0
Comes answer h (Bytes piece) = (next_answer h.orders ≡ None) × BeginsWith h.held (h.taken ++ piece)
Comes answer h Ended = (next_answer h.orders ≡ None) × IsAll h.held h.taken
Comes answer h (Tasks batch) = (next_answer h.orders ≡ None) × IsOneResult answer h.out h.revision batch
Comes answer h other = next_answer h.orders ≡ Some other

-- what an event takes from the orders and from the source
abbrev pub after_coming : HostEvent → ThreadedData → ThreadedData
after_coming (Bytes piece) h = record h { taken = h.taken ++ piece }
after_coming Ended h = record h { poisoned = true }
after_coming (Tasks batch) h = h
after_coming other h = record h { orders = after_next h.orders }

-- and from the jobs out. Jobs that wait may have started
abbrev pub after_giving : HostEvent → WaitingData → ThreadedData → ThreadedData
after_giving event waiting h = record (after_coming event h) { out = after_event event h.out; waiting = waiting; calls = added h.calls (gave event) }
