-- A turn gives no more numbers than it may need; and one that the machine can't take needs one more of a counter than there are.
use Rattle.std.proofs.Common.{◌≡◌, ℕ, ◌+◌, ◌-◌, ◌^◌, ◌≤◌, List, [], ◌∷◌, ◌++◌, length, Bool, true, false, refl, sym, ◌∙◌, subst, arith}
use Rattle.std.proofs.lemmas.List.{length-append}
use Rattle.std.proofs.lemmas.Result.{IfOk-at_ok}
use Rattle.std.specs.Prelude.{◌==◌, Err, if◌then◌else◌, Ok, Result}
use Rattle.session_port.specs.TurnState.{TurnState, and_then, ordered, lifted}
use Rattle.session_port.specs.declared.command.Command.TheVariants.{Revise, Timer as SetTimer}
use Rattle.session_port.specs.declared.news.FlycheckMsg.TheVariants as checks
use Rattle.session_port.specs.declared.fault.Counter.{Counter}
use Rattle.session_laws.proofs.OwnJobs.{quiet-is, quiet-split}
use Rattle.session_laws.proofs.OwnJobs.{before-is, fetch_begun, fetch_part-leaves, parts_from_fetch, step-split}
use Rattle.session_model.specs.OwnJobs.{batch_jobs_due, before_quiet, parts_before_quiet}
use Rattle.session_model.specs.OwnJobs.{OwnJob, before_fetch, checks_back, fetch_jobs, jobs_due}
use Rattle.session_model.specs.OwnJobs.{parts_before_fetch, run_jobs, run_jobs_behind}
use Rattle.session_laws.proofs.Turns.{session_in}
use Rattle.desk.specs.Meaning.{Meaning}
use Rattle.desk.specs.Steps.{jobs_kept as kept_at_desk}
use Rattle.workspaces.specs.Fetches.{fires, start_up}
use Rattle.session_model.specs.Fetching.{with_fetches}
use Rattle.session_model.specs.Machine.{at_workspaces}
use Rattle.session_model.specs.Machine.{begin_part, begun_fetches, build_part}
use Rattle.session_model.specs.Machine.{turn_closed, closing_part}
use Rattle.session_model.specs.Machine.{event_part, fetch_part, fetch_started}
use Rattle.session_model.specs.Machine.{files_done, files_part}
use Rattle.session_model.specs.Machine.{crates_come}
use Rattle.session_model.specs.Machine.{knowing_crates}
use Rattle.session_model.specs.Machine.{in_state, desk_kept, knowing}
use Rattle.session_model.specs.Machine.{quiet_done, quiet_part}
use Rattle.session_model.specs.Machine.{marked_published}
use Rattle.session_model.specs.Machine.{register_part}
use Rattle.session_model.specs.Machine.{revised, runs_started, saves_registered, some_processed, state_in}
use Rattle.session_model.specs.Machine.{status_done, status_part, step, switch_done, switch_part}
use Rattle.session_model.specs.Machine.{event_taken, publish_part, timer_set, told, turned, Turning, turning}
use Rattle.session_model.specs.Machine.{with_desk, with_state}
use Rattle.session_model.specs.RunEnds.{AreTooMany, NeedsMore, Numbers, needs_of}
use Rattle.session_model.specs.Run.{turn_start}
use Rattle.session_model.specs.State.{State, discovers, may_start}
use Rattle.session_model.specs.declared.facts.FactsBefore.{FactsBefore}
use Rattle.session_model.specs.declared.input.Event.{Event}
use Rattle.session_model.specs.declared.input.Input.{Input}
use Rattle.session_model.specs.declared.input.Input.TheVariants.{Start, Next}
use Rattle.session_laws.specs.Invariant.{place_of_state}
use Rattle.session_laws.proofs.Counting.{AtMost, Counts, ahead, at-most, both, counts-behind, counts-more, counts-then}
use Rattle.session_laws.proofs.Counting.{counts-within, files, given}
use Rattle.session_laws.proofs.Counting.{held, jobs, none}
use Rattle.session_laws.proofs.Counting.{requests, revisions, state_ahead, turns}
use Rattle.session_laws.proofs.PartCounts.{Does, does-same, done-does, fetch-does, for_quiet, for_switch, marked-same, quiet-does, registered-does}
use Rattle.session_laws.proofs.PartCounts.{runs-do, status-does, switch-does}
use Rattle.session_laws.proofs.EventCounts.{for_event_part, more-held, taken_in-does}

-- ---- whole turns

abbrev turning_ahead : TurnState Turning → State
turning_ahead t = ahead t.state.state

-- a part of a turn
abbrev PartDoes : Numbers → TurnState Turning → Result (TurnState Turning) Counter → Type 0
PartDoes needs t r = Counts turning_ahead needs (held t.state.state) r

part-does : (needs : Numbers) (part : TurnState State → Result (TurnState State) Counter) (t : TurnState Turning)
    → Does needs (session_in t) (part (session_in t)) → PartDoes needs t (in_state part t)
part-does needs part t h = counts-within turning_ahead needs (held t.state.state) state_in with_state part t h

parts-then : (a b : Numbers) (t : TurnState Turning) (r : Result (TurnState Turning) Counter) (f : TurnState Turning → Result (TurnState Turning) Counter)
    → PartDoes a t r
    → ((u : TurnState Turning) → PartDoes b u (f u)) → PartDoes (both a b) t (and_then r f)
parts-then a b t r f p q = counts-then turning_ahead turning_ahead a b (held t.state.state) r f p (λ u is. q u)

-- a part, and then the others
part-then : (a b : Numbers) (part : TurnState State → Result (TurnState State) Counter) (f : TurnState Turning → Result (TurnState Turning) Counter)
    (t : TurnState Turning) → ((w : TurnState State) → Does a w (part w))
    → ((u : TurnState Turning) → PartDoes b u (f u)) → PartDoes (both a b) t (and_then (in_state part t) f)
part-then a b part f t does next = parts-then a b t (in_state part t) f (part-does a part t (does (session_in t))) next

-- and then nothing changes that is counted
parts-same : (needs : Numbers) (t : TurnState Turning) (r : Result (TurnState Turning) Counter) (f : TurnState Turning → TurnState Turning)
    → ((u : TurnState Turning) → held (f u).state.state ≡ held u.state.state)
    → PartDoes needs t r → PartDoes needs t (and_then r (λ u. Ok (f u)))
parts-same needs t (Ok u) f same h = subst (λ (n : Numbers). AtMost n (both (held t.state.state) needs)) (sym (same u)) h
parts-same needs t (Err counter) f same h = h

held-if : (b : Bool) (w u v : TurnState State) → held u.state ≡ held w.state → held v.state ≡ held w.state → held (if b then u else v).state ≡ held w.state
held-if true w u v p q = p
held-if false w u v p q = q

ending-does : (facts : FactsBefore) (w : TurnState State) → Does none w (turn_closed facts w)
unfolding desk_kept lifted kept_at_desk revised timer_set ordered
ending-does facts w =
    let now : TurnState State = record w { state = with_desk (record w.state.desk { jobs = _ }) w.state } in
    let told : TurnState State = revised facts.revision now in
    does-same none w (timer_set told)
    (held-if (fires told.state.desk.turns told.state.workspaces.fetches.waiting) told (ordered (SetTimer told.state.desk.turns) told) told refl refl
    ∙ held-if (now.state.files.host.revision == facts.revision) now now (ordered (Revise now.state.files.host.revision) now) refl refl)

closing-does : (t : TurnState Turning) → PartDoes none t (closing_part t)
unfolding closing_part
closing-does t = part-does none (turn_closed t.state.facts) t (ending-does t.state.facts _)

files_part-does : (t : TurnState Turning) → PartDoes none t (files_part t)
unfolding files_part
files_part-does t =
    parts-same none t (in_state files_done t) (knowing (some_processed t.state.state.files)) (λ u. refl)
    (part-does none files_done t (done-does _))

switch_part-does : (t : TurnState Turning) → PartDoes for_switch t (switch_part t)
unfolding switch_part
switch_part-does t =
    parts-same for_switch t (in_state switch_done t) (knowing_crates (crates_come t.state.state)) (λ u. refl)
    (part-does for_switch switch_done t (switch-does _))

event_part-does : (meaning : Meaning) (s : State) (event : Event)
    → Counts turning_ahead (for_event_part meaning s event) (given s) (event_part meaning event (turning (turn_start s)))
unfolding event_part
event_part-does meaning s event =
    counts-within turning_ahead (for_event_part meaning s event) (given s) state_in with_state (event_taken meaning event) (turning (turn_start s))
    (taken_in-does meaning s event)

-- behind an event a switch and the files
abbrev for_before_quiet : Meaning → State → Event → Numbers
for_before_quiet meaning s event = both (for_event_part meaning s event) (both for_switch none)

before-quiet-does : (meaning : Meaning) (s : State) (event : Event)
    → Counts turning_ahead (for_before_quiet meaning s event) (given s) (parts_before_quiet meaning (Next event) (turning (turn_start s)))
before-quiet-does meaning s event =
    counts-then turning_ahead turning_ahead (for_event_part meaning s event) (both for_switch none) (given s)
    (event_part meaning event (turning (turn_start s))) _ (event_part-does meaning s event)
    (λ t is. parts-then for_switch none t (switch_part t) files_part (switch_part-does t) files_part-does)

-- and then what is done in a quiescent session, and the files that are published
quiet_part-does : (event : Event) (t : TurnState Turning)
    → PartDoes (for_quiet (length (batch_jobs_due (Next event) t.state))) t (and_then (quiet_part (Next event) t) publish_part)
unfolding quiet_part publish_part lifted
quiet_part-does event t =
    let needs : Numbers = for_quiet (length (batch_jobs_due (Next event) t.state)) in
    parts-same needs t (in_state (quiet_done (Next event) t.state.facts) t)
    (λ u. record { state = with_state (marked_published (session_in u)).state u.state; out = (marked_published (session_in u)).out })
    (λ u. marked-same (session_in u))
    (part-does needs (quiet_done (Next event) t.state.facts) t (quiet-does (Next event) t.state.facts (session_in t)))

-- what comes before the session's own work
abbrev for_parts_before : Meaning → Input → State → Numbers
for_parts_before meaning Start s = both (revisions 1) (requests 2)
for_parts_before meaning (Next event) s =
    both (for_before_quiet meaning s event) (for_quiet (length (batch_jobs_due (Next event) (before_quiet meaning (Next event) s))))

parts-before-do : (meaning : Meaning) (s : State) (input : Input)
    → Counts turning_ahead (for_parts_before meaning input s) (given s) (parts_before_fetch meaning input (turning (turn_start s)))
unfolding status_part register_part begin_part begun_fetches
parts-before-do meaning s Start =
    counts-behind turning_ahead (revisions 1) (requests 2) (given s) (held s) (parts_before_fetch meaning Start (turning (turn_start s))) (more-held s)
    (part-then (requests 1) (requests 1) status_done _ (turning (turn_start s)) status-does
    (λ t. part-then (requests 1) none saves_registered begin_part t registered-does
    (λ t. part-does none begun_fetches t
    (does-same none (session_in t) (at_workspaces (with_fetches (start_up (discovers t.state.state.client.settings))) (session_in t)) refl))))
parts-before-do meaning s (Next event) =
    let input : Input = Next event in
    let first = parts_before_quiet meaning input (turning (turn_start s)) in
    let rest : TurnState Turning → Result (TurnState Turning) Counter = λ w. and_then (quiet_part input w) publish_part in
    let quiet : Turning → Numbers = λ before. for_quiet (length (batch_jobs_due input before)) in
    subst (Counts turning_ahead (for_parts_before meaning input s) (given s)) (sym (quiet-split meaning event (turning (turn_start s))))
    (counts-then turning_ahead turning_ahead (for_before_quiet meaning s event) (quiet (before_quiet meaning input s)) (given s) first rest
    (before-quiet-does meaning s event)
    (λ t is. subst (λ (before : Turning). PartDoes (quiet before) t (rest t)) (sym (quiet-is meaning input s t is)) (quiet_part-does event t)))

-- the work itself, and behind an event a status
abbrev for_work : ℕ → Numbers
for_work n = record none { jobs = n; requests = 1 }

fetch_part-does : (input : Input) (t : TurnState Turning) → PartDoes (jobs (length (fetch_jobs input t.state.state))) t (fetch_part input t)
unfolding fetch_part
fetch_part-does input t = part-does (jobs (length (fetch_jobs input t.state.state))) (fetch_started (may_start input t.state.state.client.settings)) t
    (fetch-does _ _)

-- where a fetch has been started
build_part-does : (event : Event) (t u : TurnState Turning) → fetch_part (Next event) t ≡ Ok u
    → PartDoes (jobs (length (run_jobs_behind (Next event) (fetch_begun (Next event) t.state.state)))) u (build_part u)
unfolding build_part
build_part-does event t u is =
    let fetched : State = fetch_begun (Next event) t.state.state in
    let same : run_jobs u.state.state ≡ run_jobs fetched = IfOk-at_ok (λ (u : TurnState Turning). run_jobs u.state.state ≡ run_jobs fetched) is
    (fetch_part-leaves (Next event) t) in
    subst (λ (own : List OwnJob). PartDoes (jobs (length own)) u (in_state runs_started u)) same
    (part-does (jobs (length (run_jobs u.state.state))) runs_started u (runs-do _))

parts-from-do : (input : Input) (t : TurnState Turning) → PartDoes (for_work (length (jobs_due input t.state.state))) t (parts_from_fetch input t)
unfolding status_part
parts-from-do Start t =
    let own = fetch_jobs Start t.state.state in
    counts-more turning_ahead (both (jobs (length own)) none) (for_work (length (own ++ []))) (held t.state.state) (parts_from_fetch Start t)
    (at-most _ _ (omega arith) (omega (arith, length-append own [])) (omega arith) (omega arith) (omega arith) (omega arith) (omega arith))
    (parts-then (jobs (length own)) none t (fetch_part Start t) closing_part (fetch_part-does Start t) closing-does)
parts-from-do (Next event) t =
    let input : Input = Next event in
    let first = fetch_jobs input t.state.state in
    let later = run_jobs_behind input (fetch_begun input t.state.state) in
    let needs : Numbers = both (jobs (length first)) (both (jobs (length later)) (requests 1)) in
    counts-more turning_ahead needs (for_work (length (first ++ later))) (held t.state.state) (parts_from_fetch input t)
    (at-most _ _ (omega arith) (omega (arith, length-append first later)) (omega arith) (omega arith) (omega arith) (omega arith) (omega arith))
    (counts-then turning_ahead turning_ahead (jobs (length first)) (both (jobs (length later)) (requests 1)) (held t.state.state) (fetch_part input t) _
    (fetch_part-does input t)
    (λ u is. parts-then (jobs (length later)) (requests 1) u (build_part u) _ (build_part-does event t u is)
    (λ t. part-then (requests 1) none status_done closing_part t status-does closing-does)))

-- the facts are forgotten
forgets : (needs n : Numbers) (r : Result (TurnState Turning) Counter) → Counts turning_ahead needs n r → Counts state_ahead needs n (and_then r turned)
forgets needs n (Ok t) h = h
forgets needs n (Err counter) h = h

few-own : (meaning : Meaning) (s : State) (input : Input)
    → AtMost (both (for_parts_before meaning input s) (for_work (length (jobs_due input (before_fetch meaning input s)))))
    (needs_of meaning input (place_of_state s))
few-own meaning s Start = at-most _ _ (omega arith) (omega arith) (omega arith) (omega arith) (omega arith) (omega arith) (omega arith)
few-own meaning s (Next event) =
    let checks : List OwnJob = checks_back s (Next event) in
    let batch : List OwnJob = batch_jobs_due (Next event) (before_quiet meaning (Next event) s) in
    let due : List OwnJob = jobs_due (Next event) (before_fetch meaning (Next event) s) in
    at-most _ _ (omega arith) (omega (arith, length-append checks batch, length-append (checks ++ batch) due))
    (omega arith) (omega arith) (omega arith)
    (omega arith) (omega arith)

pub step-does : (meaning : Meaning) (s : State) (input : Input)
    → Counts state_ahead (needs_of meaning input (place_of_state s)) (given s) (step meaning input (turn_start s))
step-does meaning s input =
    let before = parts_before_fetch meaning input (turning (turn_start s)) in
    let due = jobs_due input (before_fetch meaning input s) in
    subst (Counts state_ahead (needs_of meaning input (place_of_state s)) (given s)) (sym (step-split meaning input s))
    (forgets (needs_of meaning input (place_of_state s)) (given s) (and_then before (parts_from_fetch input))
    (counts-more turning_ahead (both (for_parts_before meaning input s) (for_work (length due))) (needs_of meaning input (place_of_state s)) (given s)
    (and_then before (parts_from_fetch input))
    (few-own meaning s input)
    (counts-then turning_ahead turning_ahead (for_parts_before meaning input s) (for_work (length due)) (given s) before (parts_from_fetch input)
    (parts-before-do meaning s input)
    (λ t is. subst (λ (o : State). PartDoes (for_work (length (jobs_due input o))) t (parts_from_fetch input t)) (sym (before-is meaning input s t is))
    (parts-from-do input t)))))

same-err : (c d : Counter) → (let r : Result (TurnState State) Counter = Err c in r) ≡ Err d → c ≡ d
same-err c d is = cc

too-many : (needs n : Numbers) (r : Result (TurnState State) Counter) (counter : Counter) → r ≡ Err counter → Counts state_ahead needs n r
    → AreTooMany n needs counter
too-many needs n (Ok v) counter is h = absurd cc
too-many needs n (Err c) counter is h = subst (AreTooMany n needs) (same-err c counter is) h

-- where the machine can't take a turn, one more of the counter that it names is needed than there are
pub step-needs : (meaning : Meaning) (s : State) (input : Input) (counter : Counter) → step meaning input (turn_start s) ≡ Err counter
    → NeedsMore meaning (place_of_state s) input counter
step-needs meaning s input counter refused = record {
  refused = refused;
  too_many = too-many (needs_of meaning input (place_of_state s)) (given s) (step meaning input (turn_start s)) counter refused (step-does meaning s input);
}
