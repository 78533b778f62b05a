-- How fetches of workspaces are asked for, wait for a timer, start and end.
use Rattle.std.specs.Prelude.{ℕ, Bool, false, not, ◌&&◌, ◌||◌, ◌==◌, if◌then◌else◌, List, [], ◌∷◌, codes, Option, None}
use Rattle.std.specs.Prelude.{Some, is_some, is_none, option_map}
use Rattle.std.specs.Prelude.{Result, Ok, Err}
use Rattle.op_board.specs.Queue.{starts, after_start}
use Rattle.op_board.specs.QueueRuns.{queue_step}
use Rattle.op_board.specs.QueueRuns.QueueAct.{Requests, Ends}
use Rattle.reload.specs.Switch.{Fetched}
use Rattle.workspaces.specs.declared.requests.FetchRequest.{FetchRequest}
use Rattle.workspaces.specs.declared.requests.WaitingFetch.{WaitingFetch}
use Rattle.workspaces.specs.Workspaces.{Fetches}

-- no path asks for the fetch, and it isn't forced
abbrev pub unforced : FetchRequest
unforced = record { path = None; force = false }

-- the request, forced too where this flag is set
abbrev pub keeping : Bool → FetchRequest → FetchRequest
keeping force request = record { path = request.path; force = force || request.force }

-- ---- the queue

-- what the request that waits asks for
abbrev pub fetch_requested : Fetches → Option FetchRequest
fetch_requested f = option_map (λ (request : List ℕ × FetchRequest). request.1) f.queue.waiting

abbrev pub is_forced : Option FetchRequest → Bool
is_forced None = false
is_forced (Some request) = request.force

-- a newer request takes the place of the one that waits, and keeps its force flag
abbrev pub ask_fetch : List ℕ → FetchRequest → Fetches → Fetches
ask_fetch cause request f = record f {
  queue = queue_step
      (Requests (cause, keeping (is_forced (fetch_requested f)) request)) f.queue;
}

-- a session begins with a fetch, unless its projects are discovered
abbrev pub start_up : Bool → Fetches → Fetches
start_up discover f = if discover then f else ask_fetch (codes "startup") unforced f

-- whether the fetch is forced that is to start; where none is, as before
abbrev pub starts_forced : Bool → Option (List ℕ × FetchRequest) → Bool
starts_forced before None = before
starts_forced before (Some request) = request.1.force

-- after the fetch that is to start, if there is one, was handed out
abbrev pub after_fetch_start : Fetches → Fetches
after_fetch_start f = record f { queue = after_start f.queue; forced = starts_forced f.forced (starts f.queue) }

-- a fetch is handed out only where fetches may start
abbrev pub fetch_to_start : Bool → Fetches → Option (List ℕ × FetchRequest)
fetch_to_start may_fetch f = if may_fetch then starts f.queue else None

abbrev pub start_fetch : Bool → Fetches → Fetches
start_fetch may_fetch f = if may_fetch then after_fetch_start f else f

-- a fetch that failed as a whole is one error
abbrev pub fetched_of : Result Fetched (List ℕ) → Fetched
fetched_of (Ok list) = list
fetched_of (Err error) = Err error ∷ []

-- what a fetch found is kept with its force flag
abbrev pub end_fetch : Result Fetched (List ℕ) → Fetches → Fetches
end_fetch result f = record f {
  queue = queue_step (Ends (record { workspaces = fetched_of result; forced = f.forced }))
      f.queue;
}

-- ---- the timer

-- whether a fetch that waits for a timer is forced
abbrev pub waits_forced : Option WaitingFetch → Bool
waits_forced None = false
waits_forced (Some fetch) = fetch.request.force

-- a request that is about to start serves as well: none waits for a timer, one waits in the queue, and none is in
-- progress
abbrev pub is_served : Fetches → Bool
is_served f = is_none f.waiting && is_some f.queue.waiting && not f.queue.in_progress

-- a newer fetch takes the place of the one that waits for a timer, and keeps its force flag
abbrev pub waits_from : ℕ → FetchRequest → Fetches → Fetches
waits_from turn request f = record f {
  waiting = Some
      (record { ticket = turn; request = keeping (waits_forced f.waiting) request });
}

abbrev pub plan_fetch : ℕ → FetchRequest → Fetches → Fetches
plan_fetch turn request f = if is_served f then f else waits_from turn request f

-- the ticket of the timer that is to be ordered for it
abbrev pub planned_timer : ℕ → Fetches → Option ℕ
planned_timer turn f = if is_served f then None else Some turn

-- a fetch that waits gets a new ticket
abbrev pub with_new_ticket : ℕ → WaitingFetch → WaitingFetch
with_new_ticket turn fetch = record { ticket = turn; request = fetch.request }

abbrev pub renew_timer : ℕ → Fetches → Fetches
renew_timer turn f = record f { waiting = option_map (with_new_ticket turn) f.waiting }

-- the ticket of the timer that is to be ordered then
abbrev pub renewed_timer : ℕ → Fetches → Option ℕ
renewed_timer turn f = option_map (λ (fetch : WaitingFetch). turn) f.waiting

-- whether a fetch waits for the timer with this ticket
abbrev pub fires : ℕ → Option WaitingFetch → Bool
fires ticket None = false
fires ticket (Some fetch) = fetch.ticket == ticket

abbrev pub project_change : List ℕ
project_change = codes "project structure change"

-- a fetch waits for a timer no more, and is asked for
abbrev pub ask_waiting : Option WaitingFetch → Fetches → Fetches
ask_waiting None f = f
ask_waiting (Some fetch) f = ask_fetch project_change fetch.request (record f { waiting = None })

-- only the timer with the ticket that is waited for does something
abbrev pub fire : ℕ → Fetches → Fetches
fire ticket f = if fires ticket f.waiting then ask_waiting f.waiting f else f
