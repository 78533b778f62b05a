-- What runs of fetches come to.
use Rattle.std.proofs.Common.{◌≡◌, ℕ, ◌+◌, Bool, true, false, ◌||◌, cond, eqb, List, [], ◌∷◌, ◌++◌, length, refl, ap, ◌∙◌, ⊎_elim, arith}
use Rattle.std.specs.Prelude.{Option, Some, None, option_map, option_to_list}
use Rattle.std.proofs.lemmas.Bool.{cases_Bool, cond-true, cond-false, eqb-true}
use Rattle.op_board.specs.Queue.{Queue, starts, after_start}
use Rattle.op_board.specs.QueueRuns.{running}
use Rattle.workspaces.specs.declared.outputs.FetchOutput.{FetchOutput}
use Rattle.workspaces.specs.declared.requests.FetchRequest.{FetchRequest}
use Rattle.workspaces.specs.declared.requests.WaitingFetch.{WaitingFetch}
use Rattle.workspaces.specs.Fetches.{fetch_requested, is_forced, waits_forced, is_served, waits_from, with_new_ticket, fires, ask_waiting, fire, starts_forced}
use Rattle.workspaces.specs.Fetches.{fetch_to_start, start_fetch}
use Rattle.workspaces.specs.FetchRuns.{FetchAct, fetches_after, IsFetchRun, fetches_started, fetches_ended, newer, last_ordered, asks_force, StartsNone}
use Rattle.workspaces.specs.FetchRuns.{last_forced}
use Rattle.workspaces.specs.FetchRuns.FetchAct.{Asks, Plans, Renews, Fires, Starts, Ends}
use Rattle.workspaces.specs.Workspaces.{Fetches}

-- ---- one fetch runs

started : (w : Option (List ℕ × FetchRequest)) (b : Bool) (o : Option FetchOutput) (hs : List (List ℕ × FetchRequest)) (n : ℕ) → length hs ≡ n + cond b 1 0
    → length (option_to_list (starts {O = FetchOutput} (record { waiting = w; in_progress = b; last = o })) ++ hs) ≡ n + running
    (after_start {O = FetchOutput} (record { waiting = w; in_progress = b; last = o }))
started w true o hs n is = is
started None false o hs n is = is
started (Some r) false o hs n is = omega (arith, is)

started_or_not : (may : Bool) (f : Fetches) (hs : List (List ℕ × FetchRequest)) (n : ℕ) → length hs ≡ n + running f.queue
    → length (option_to_list (fetch_to_start may f) ++ hs) ≡ n + running (start_fetch may f).queue
started_or_not true f hs n is = started f.queue.waiting f.queue.in_progress f.queue.last hs n is
started_or_not false f hs n is = is

planned_running : (served : Bool) (turn : ℕ) (request : FetchRequest) (f : Fetches) → running f.queue ≡ running
    (cond served f (waits_from turn request f)).queue
planned_running true turn request f = refl
planned_running false turn request f = refl

asked_running : (waiting : Option WaitingFetch) (f : Fetches) → running f.queue ≡ running (ask_waiting waiting f).queue
asked_running None f = refl
asked_running (Some fetch) f = refl

fired_running : (due : Bool) (f : Fetches) → running f.queue ≡ running (cond due (ask_waiting f.waiting f) f).queue
fired_running true f = asked_running f.waiting f
fired_running false f = refl

pub one_runs : (run : List FetchAct) → IsFetchRun run → length (fetches_started run) ≡ fetches_ended run + running (fetches_after run).queue
one_runs [] lawful = refl
one_runs (Asks cause request ∷ before) lawful = one_runs before lawful
one_runs (Plans turn request ∷ before) lawful =
    let f = fetches_after before in
    one_runs before lawful ∙ ap (λ n. fetches_ended before + n) (planned_running (is_served f) turn request f)
one_runs (Renews turn ∷ before) lawful = one_runs before lawful
one_runs (Fires ticket ∷ before) lawful =
    let f = fetches_after before in
    one_runs before lawful ∙ ap (λ n. fetches_ended before + n) (fired_running (fires ticket f.waiting) f)
one_runs (Starts may ∷ before) lawful = started_or_not may (fetches_after before) (fetches_started before) (fetches_ended before) (one_runs before lawful)
one_runs (Ends result ∷ before) lawful =
    let is = one_runs before lawful.1 ∙ ap (λ n. fetches_ended before + n) (cond-true (fetches_after before).queue.in_progress 1 0 lawful.0) in
    omega (arith, is)

-- ---- the newest timer

-- what waits, waits for this timer
abbrev WaitsFor : Option ℕ → Option WaitingFetch → Type 0
WaitsFor ordered None = Unit {0}
WaitsFor ordered (Some fetch) = ordered ≡ Some fetch.ticket

planned_waits : (served : Bool) (turn : ℕ) (request : FetchRequest) (f : Fetches) (ordered : Option ℕ) → WaitsFor ordered f.waiting
    → WaitsFor (newer (cond served None (Some turn)) ordered) (cond served f (waits_from turn request f)).waiting
planned_waits true turn request f ordered is = is
planned_waits false turn request f ordered is = refl

renewed_waits : (turn : ℕ) (waiting : Option WaitingFetch) (ordered : Option ℕ) → WaitsFor ordered waiting
    → WaitsFor (newer (option_map (λ (fetch : WaitingFetch). turn) waiting) ordered) (option_map (with_new_ticket turn) waiting)
renewed_waits turn None ordered is = tt
renewed_waits turn (Some fetch) ordered is = refl

fired_waits : (due : Bool) (waiting : Option WaitingFetch) (f : Fetches) (ordered : Option ℕ) → WaitsFor ordered f.waiting
    → WaitsFor ordered (cond due (ask_waiting waiting f) f).waiting
fired_waits true None f ordered is = is
fired_waits true (Some fetch) f ordered is = tt
fired_waits false waiting f ordered is = is

started_waits : (may : Bool) (f : Fetches) (ordered : Option ℕ) → WaitsFor ordered f.waiting → WaitsFor ordered (start_fetch may f).waiting
started_waits true f ordered is = is
started_waits false f ordered is = is

waits_for : (run : List FetchAct) → WaitsFor (last_ordered run) (fetches_after run).waiting
waits_for [] = tt
waits_for (Asks cause request ∷ before) = waits_for before
waits_for (Plans turn request ∷ before) =
    let f = fetches_after before in planned_waits (is_served f) turn request f (last_ordered before) (waits_for before)
waits_for (Renews turn ∷ before) = renewed_waits turn (fetches_after before).waiting (last_ordered before) (waits_for before)
waits_for (Fires ticket ∷ before) =
    let f = fetches_after before in fired_waits (fires ticket f.waiting) f.waiting f (last_ordered before) (waits_for before)
waits_for (Starts may ∷ before) = started_waits may (fetches_after before) (last_ordered before) (waits_for before)
waits_for (Ends result ∷ before) = waits_for before

not_due : (ordered : Option ℕ) (ticket : ℕ) (waiting : Option WaitingFetch) → WaitsFor ordered waiting → (ordered ≡ Some ticket → ⊥) → fires ticket waiting
    ≡ false
not_due ordered ticket None is other = refl
not_due ordered ticket (Some fetch) is other =
    ⊎_elim (λ same. absurd (other (is ∙ ap Some (eqb-true fetch.ticket ticket same)))) (λ differs. differs) (cases_Bool (eqb fetch.ticket ticket))

pub old_does_nothing : (run : List FetchAct) (ticket : ℕ) → (last_ordered run ≡ Some ticket → ⊥) → fire ticket (fetches_after run) ≡ fetches_after run
old_does_nothing run ticket other =
    let f = fetches_after run in
    cond-false (fires ticket f.waiting) (ask_waiting f.waiting f) f (not_due (last_ordered run) ticket f.waiting (waits_for run) other)

-- ---- the force flag

asks_more : (a w r : Bool) → (a || w) ≡ true → ((a || r) || w) ≡ true
asks_more true w r is = refl
asks_more false w true is = refl
asks_more false w false is = is

waits_more : (a w r : Bool) → (a || w) ≡ true → (a || (w || r)) ≡ true
waits_more true w r is = refl
waits_more false true r is = refl
waits_more false false r is = absurd cc

moves : (a w : Bool) → (a || w) ≡ true → ((a || w) || false) ≡ true
moves true w is = refl
moves false true is = refl
moves false false is = is

planned_force : (served : Bool) (turn : ℕ) (request : FetchRequest) (f : Fetches) → asks_force f ≡ true
    → asks_force (cond served f (waits_from turn request f)) ≡ true
planned_force true turn request f is = is
planned_force false turn request f is = waits_more (is_forced (fetch_requested f)) (waits_forced f.waiting) request.force is

renewed_force : (turn : ℕ) (a : Bool) (waiting : Option WaitingFetch) → (a || waits_forced waiting) ≡ true →
    (a || waits_forced (option_map (with_new_ticket turn) waiting)) ≡ true
renewed_force turn a None is = is
renewed_force turn a (Some fetch) is = is

fired_force : (due : Bool) (queue : Queue FetchRequest FetchOutput) (forced : Bool) (waiting : Option WaitingFetch)
    → let f : Fetches = record { queue = queue; forced = forced; waiting = waiting } in
    asks_force f ≡ true → asks_force (cond due (ask_waiting waiting f) f) ≡ true
fired_force true queue forced None is = is
fired_force true queue forced (Some fetch) is = moves
    (is_forced (option_map (λ (request : List ℕ × FetchRequest). request.1) queue.waiting)) fetch.request.force is
fired_force false queue forced waiting is = is

pub stays_forced : (since before : List FetchAct) → StartsNone since → asks_force (fetches_after before) ≡ true → asks_force
    (fetches_after (since ++ before)) ≡ true
stays_forced [] before none is = is
stays_forced (Asks cause request ∷ since) before none is =
    let f = fetches_after (since ++ before) in
    asks_more (is_forced (fetch_requested f)) (waits_forced f.waiting) request.force (stays_forced since before none is)
stays_forced (Plans turn request ∷ since) before none is =
    let f = fetches_after (since ++ before) in planned_force (is_served f) turn request f (stays_forced since before none is)
stays_forced (Renews turn ∷ since) before none is =
    let f = fetches_after (since ++ before) in renewed_force turn (is_forced (fetch_requested f)) f.waiting (stays_forced since before none is)
stays_forced (Fires ticket ∷ since) before none is =
    let f = fetches_after (since ++ before) in fired_force (fires ticket f.waiting) f.queue f.forced f.waiting (stays_forced since before none is)
stays_forced (Starts may ∷ since) before none is = absurd none
stays_forced (Ends result ∷ since) before none is = stays_forced since before none is

-- ---- the flag of the fetch in progress

planned_flag : (served : Bool) (turn : ℕ) (request : FetchRequest) (f : Fetches) → (cond served f (waits_from turn request f)).forced ≡ f.forced
planned_flag true turn request f = refl
planned_flag false turn request f = refl

fired_flag : (due : Bool) (waiting : Option WaitingFetch) (f : Fetches) → (cond due (ask_waiting waiting f) f).forced ≡ f.forced
fired_flag true None f = refl
fired_flag true (Some fetch) f = refl
fired_flag false waiting f = refl

handed_flag : (request : Option (List ℕ × FetchRequest)) (before : Bool) (rest : List (List ℕ × FetchRequest)) → before ≡ last_forced rest
    → starts_forced before request ≡ last_forced (option_to_list request ++ rest)
handed_flag None before rest is = is
handed_flag (Some request) before rest is = refl

started_flag : (may : Bool) (f : Fetches) (rest : List (List ℕ × FetchRequest)) → f.forced ≡ last_forced rest
    → (start_fetch may f).forced ≡ last_forced (option_to_list (fetch_to_start may f) ++ rest)
started_flag true f rest is = handed_flag (starts f.queue) f.forced rest is
started_flag false f rest is = is

pub flag_is : (run : List FetchAct) → (fetches_after run).forced ≡ last_forced (fetches_started run)
flag_is [] = refl
flag_is (Asks cause request ∷ before) = flag_is before
flag_is (Plans turn request ∷ before) = let f = fetches_after before in planned_flag (is_served f) turn request f ∙ flag_is before
flag_is (Renews turn ∷ before) = flag_is before
flag_is (Fires ticket ∷ before) = let f = fetches_after before in fired_flag (fires ticket f.waiting) f.waiting f ∙ flag_is before
flag_is (Starts may ∷ before) = started_flag may (fetches_after before) (fetches_started before) (flag_is before)
flag_is (Ends result ∷ before) = flag_is before
