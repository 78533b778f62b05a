-- Runs of the calls on fetches: what they did, one act after another. A run has its last act first.
use Rattle.std.specs.Prelude.{◌≡◌, ℕ, ◌+◌, Bool, true, false, ◌||◌, List, [], ◌∷◌, ◌++◌, Option, None, Some}
use Rattle.std.specs.Prelude.{option_to_list, Result}
use Rattle.reload.specs.Switch.{Fetched}
use Rattle.workspaces.specs.declared.requests.FetchRequest.{FetchRequest}
use Rattle.workspaces.specs.Fetches.{fetch_requested, is_forced, waits_forced, ask_fetch, plan_fetch, planned_timer}
use Rattle.workspaces.specs.Fetches.{renew_timer, renewed_timer, fire}
use Rattle.workspaces.specs.Fetches.{fetch_to_start, start_fetch, end_fetch}
use Rattle.workspaces.specs.Workspaces.{Fetches, no_fetches}

pub data FetchAct : Type 0 where
  -- a fetch is asked for, for a cause
  Asks : List ℕ → FetchRequest → FetchAct
  -- a fetch is to wait for a timer from this turn on
  Plans : ℕ → FetchRequest → FetchAct
  -- what waits for a timer waits from this turn on
  Renews : ℕ → FetchAct
  -- the timer with this ticket has come
  Fires : ℕ → FetchAct
  -- a fetch may start, or may not
  Starts : Bool → FetchAct
  -- the fetch in progress ends
  Ends : Result Fetched (List ℕ) → FetchAct

abbrev pub fetch_step : FetchAct → Fetches → Fetches
fetch_step (Asks cause request) f = ask_fetch cause request f
fetch_step (Plans turn request) f = plan_fetch turn request f
fetch_step (Renews turn) f = renew_timer turn f
fetch_step (Fires ticket) f = fire ticket f
fetch_step (Starts may_fetch) f = start_fetch may_fetch f
fetch_step (Ends result) f = end_fetch result f

abbrev pub fetches_after : List FetchAct → Fetches
fetches_after [] = no_fetches
fetches_after (act ∷ before) = fetch_step act (fetches_after before)

-- a fetch ends only where one is in progress
abbrev pub IsFetchRun : List FetchAct → Type 0
IsFetchRun [] = Unit {0}
IsFetchRun (Ends result ∷ before) = ((fetches_after before).queue.in_progress ≡ true) × IsFetchRun before
IsFetchRun (act ∷ before) = IsFetchRun before

-- the fetches that were started, the last one first
abbrev pub fetches_started : List FetchAct → List (List ℕ × FetchRequest)
fetches_started [] = []
fetches_started (Starts may_fetch ∷ before) = option_to_list (fetch_to_start may_fetch (fetches_after before))
    ++ fetches_started before
fetches_started (act ∷ before) = fetches_started before

-- whether the last of them was forced
abbrev pub last_forced : List (List ℕ × FetchRequest) → Bool
last_forced [] = false
last_forced (request ∷ before) = request.1.force

-- how many of them ended
abbrev pub fetches_ended : List FetchAct → ℕ
fetches_ended [] = 0
fetches_ended (Ends result ∷ before) = fetches_ended before + 1
fetches_ended (act ∷ before) = fetches_ended before

abbrev pub newer : Option ℕ → Option ℕ → Option ℕ
newer None before = before
newer (Some ticket) before = Some ticket

-- the ticket of the last timer that was ordered
abbrev pub last_ordered : List FetchAct → Option ℕ
last_ordered [] = None
last_ordered (Plans turn request ∷ before) = newer (planned_timer turn (fetches_after before)) (last_ordered before)
last_ordered (Renews turn ∷ before) = newer (renewed_timer turn (fetches_after before)) (last_ordered before)
last_ordered (act ∷ before) = last_ordered before

-- a forced fetch waits in the queue or for a timer
abbrev pub asks_force : Fetches → Bool
asks_force f = is_forced (fetch_requested f) || waits_forced f.waiting

abbrev pub StartsNone : List FetchAct → Type 0
StartsNone [] = Unit {0}
StartsNone (Starts may_fetch ∷ before) = ⊥
StartsNone (act ∷ before) = StartsNone before
