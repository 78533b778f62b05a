-- The event that comes next of the jobs out, of the orders that are kept and of a source that is given frame by frame,
-- and what is left after it.
use Rattle.std.specs.Prelude.{◌≡◌, ◌≢◌, ◌<◌, ◌≤◌, ◌++◌, ℕ, List, [], map, length, take, drop, None, Some}
use Rattle.std.specs.List.{AllZip}
use Rattle.std.specs.FinMap as map
use Rattle.analysis_host.specs.Answers.{OutcomeSpec}
use Rattle.analysis_host.specs.SnapshotData.{SnapshotData}
use Rattle.analysis_host.specs.declared.ask.Ask.{Ask}
use Rattle.host_orders.specs.HostOrders.{after_next}
use Rattle.lsp_frame.specs.Frames.{cut_of}
use Rattle.lsp_frame.specs.declared.frame.Cut.TheVariants.{NeedMore}
use Rattle.inline_host.specs.Framed.{FramedData, EndsPiece}
use Rattle.session_port.specs.Events.{event_bytes}
use Rattle.session_port.specs.Honest.{AreHonest}
use Rattle.inline_host.specs.Inline.{IsDry}
use Rattle.session_port.specs.Jobs.{Jobs, after_batch}
use Rattle.session_port.specs.Runs.{AreUncancelled}
use Rattle.inline_host.specs.Orders.{Orders, next_answer}
use Rattle.inline_host.specs.Results.{JobsData, IsOfProject}
use Rattle.session_port.specs.declared.event.HostEvent.{HostEvent}
use Rattle.session_port.specs.declared.event.HostEvent.TheVariants.{Bytes, Ended, Tasks}
use Rattle.session_port.specs.declared.event.TaskMsg.{TaskMsg}

-- no job is out and no order is kept, and this is the next piece of the bytes held, of which more were read only where
-- more were needed
pub record ComesAsBytes (out : Jobs) (orders : Orders) (before source : FramedData) (piece : List ℕ) : Type 0 where
  pub idle : out ≡ map.empty
  pub answered : next_answer orders ≡ None
  pub some : 0 < length piece
  pub within : length piece ≤ length source.held
  pub is : piece ≡ take (length piece) source.held
  pub ends : EndsPiece source (length piece)
  pub unread : cut_of before.held ≢ NeedMore → source ≡ before

-- no job is out, no order is kept, and no byte is held or left
pub record ComesAsEnd (out : Jobs) (orders : Orders) (source : FramedData) : Type 0 where
  pub idle : out ≡ map.empty
  pub answered : next_answer orders ≡ None
  pub none : source.held ≡ []
  pub dry : IsDry source.left

-- some job is out, these are the results of all that are, nothing stopped any, and nothing was read
pub record ComesAsResults (answer : SnapshotData → Ask → OutcomeSpec) (out : Jobs) (before source : FramedData)
    (batch : List TaskMsg) : Type 0 where
  pub busy : out ≢ map.empty
  pub honest : AreHonest answer out batch
  pub all : after_batch batch out ≡ map.empty
  pub numbers : map (λ message. message.job) batch ≡ map.keys out
  pub uncancelled : AreUncancelled batch
  pub project : AllZip IsOfProject (map.values out) batch
  pub unread : source ≡ before

-- no job is out, this is the answer that is due, and nothing was read
pub record ComesAsAnswer (out : Jobs) (orders : Orders) (before source : FramedData) (event : HostEvent) : Type 0 where
  pub idle : out ≡ map.empty
  pub due : next_answer orders ≡ Some event
  pub unread : source ≡ before

abbrev pub Comes : (SnapshotData → Ask → OutcomeSpec) → Jobs → Orders → FramedData → FramedData → HostEvent → Type 0
Comes answer out orders before source (Bytes piece) = ComesAsBytes out orders before source piece
Comes answer out orders before source Ended = ComesAsEnd out orders source
Comes answer out orders before source (Tasks batch) = ComesAsResults answer out before source batch
Comes answer out orders before source other = ComesAsAnswer out orders before source other

-- the orders that are kept where this event came
abbrev pub orders_after : HostEvent → Orders → Orders
orders_after (Bytes piece) orders = orders
orders_after Ended orders = orders
orders_after (Tasks batch) orders = orders
orders_after other orders = after_next orders

-- no job is out, no order is kept, and the bytes held don't show the next piece
pub record NeedsRead (out : Jobs) (orders : Orders) (source : FramedData) : Type 0 where
  pub idle : out ≡ map.empty
  pub answered : next_answer orders ≡ None
  pub needs : cut_of source.held ≡ NeedMore

-- what was held before an event was given
abbrev pub source_before : HostEvent → FramedData → FramedData
source_before event source = record source { held = event_bytes event ++ source.held }

-- what is held after an event was given
abbrev pub source_after : HostEvent → FramedData → FramedData
source_after event source = record source { held = drop (length (event_bytes event)) source.held }

abbrev pub jobs_after : HostEvent → JobsData → JobsData
jobs_after (Tasks batch) jobs = record jobs { out = map.empty }
jobs_after other jobs = jobs
