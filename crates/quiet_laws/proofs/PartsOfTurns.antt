-- A turn, taken apart: where it stands behind its event, behind a switch, behind the files, and before it is closed.
use Rattle.std.proofs.Common.{◌≡◌, Bool, refl, sym, ap, ◌∙◌, subst}
use Rattle.std.specs.Prelude.{Result, Ok, Err, IfOk}
use Rattle.std.specs.Result.{result_unwrap_or}
use Rattle.session_port.specs.TurnState.{TurnState, and_then}
use Rattle.session_port.specs.declared.fault.Counter.{Counter}
use Rattle.desk.specs.Meaning.{Meaning}
use Rattle.desk_laws.proofs.Results.{IfOk-and_then, IfOk-weaker, IfOk-within}
use Rattle.workspaces.specs.Fetches.{start_fetch, start_up}
use Rattle.workspaces.specs.Workspaces.{Workspaces}
use Rattle.session_model.specs.Fetching.{with_fetches}
use Rattle.session_model.specs.Machine.{begin_part, begun_fetches, build_part, closing_part, event_part, event_taken, facts_before, fetch_part, fetch_started}
use Rattle.session_model.specs.Machine.{files_done, files_part, in_state, later_parts, marked_published, prime_part, publish_part, quiet_done, quiet_part}
use Rattle.session_model.specs.Machine.{crates_come, register_part}
use Rattle.session_model.specs.Machine.{runs_started, saves_registered, some_processed, start_parts, state_in, status_done, status_part, step, switch_done}
use Rattle.session_model.specs.Machine.{switch_part, turn_closed, turned, Turning, turning, with_state}
use Rattle.session_model.specs.OwnJobs.{before_quiet}
use Rattle.session_model.specs.Run.{turn_start}
use Rattle.session_model.specs.State.{State, discovers, may_start}
use Rattle.session_model.specs.declared.facts.FactsBefore.{FactsBefore}
use Rattle.session_model.specs.declared.input.Event.{Event}
use Rattle.session_model.specs.declared.input.Input.TheVariants.{Start, Next}
use Rattle.session_laws.proofs.Turns.{session_in}
use Rattle.quiet_laws.proofs.Parts.{Closes, Leaves, begun-leaves, closing-closes, fetch-leaves, leaves-none, leaves-on, marked-leave, quiet-leaves}
use Rattle.quiet_laws.proofs.Parts.{registers-leave, runs-leave, runs_begun, status-leaves}

-- ---- what is so of one part

IfOk-self : {X E : Type 0} (r : Result X E) → IfOk r (λ x. r ≡ Ok x)
IfOk-self (Ok x) = refl
IfOk-self (Err e) = tt

-- a part of the session within the turn: it is this, and the facts stay
record Is (part : TurnState State → Result (TurnState State) Counter) (t v : TurnState Turning) : Type 0 where
  whole : in_state part t ≡ Ok v
  is : part (session_in t) ≡ Ok (session_in v)
  facts : v.state.facts ≡ t.state.facts

within-is : (part : TurnState State → Result (TurnState State) Counter) (t : TurnState Turning) → IfOk (in_state part t) (Is part t)
within-is part t = both (in_state part t) refl (IfOk-self (in_state part t))
    (IfOk-within state_in with_state part t (λ v. (part (session_in t) ≡ Ok (session_in v)) × (v.state.facts ≡ t.state.facts))
    (IfOk-weaker (part (session_in t)) (λ v. part (session_in t) ≡ Ok v) _ (IfOk-self (part (session_in t))) (λ v is. (is, refl))))
  where
    both : (r : Result (TurnState Turning) Counter) → r ≡ in_state part t → IfOk r (λ v. r ≡ Ok v)
        → IfOk r (λ v. (part (session_in t) ≡ Ok (session_in v)) × (v.state.facts ≡ t.state.facts)) → IfOk r (Is part t)
    both (Ok v) same p q = record { whole = sym same; is = q.0; facts = q.1 }
    both (Err counter) same p q = tt

-- ---- behind the files

-- what starts behind them, where fetches may start or not
abbrev pub begun_behind : Bool → Workspaces → Workspaces
begun_behind may workspaces = runs_begun (with_fetches (start_fetch may) workspaces)

-- behind the files a turn leaves all as it is but these workspaces, and is closed
pub record Later (workspaces : Workspaces) (w v : TurnState State) : Type 0 where
  pub closing : TurnState State
  pub leaves : Leaves workspaces w closing
  pub closes : Closes closing v

-- this holds at the end
abbrev Ends : (TurnState State → Type 0) → TurnState Turning → Type 0
Ends Goal t = Goal (session_in t)

-- a part, and then the others
goes-on : (Goal : TurnState State → Type 0) (step : Workspaces → Workspaces) (workspaces : Workspaces) (w : TurnState State)
    (part : TurnState State → Result (TurnState State) Counter) (rest : TurnState Turning → Result (TurnState Turning) Counter) (t : TurnState Turning)
    → Leaves workspaces w (session_in t) → ((v : TurnState State) → IfOk (part v) (Leaves (step v.state.workspaces) v))
    → ((v : TurnState Turning) → Leaves (step workspaces) w (session_in v) → IfOk (rest v) (Ends Goal)) → IfOk (and_then (in_state part t) rest) (Ends Goal)
goes-on Goal step workspaces w part rest t here leaves next =
    IfOk-and_then (in_state part t) rest (λ v. Leaves (step workspaces) w (session_in v)) (Ends Goal)
    (IfOk-within state_in with_state part t (λ v. Leaves (step workspaces) w (session_in v))
    (IfOk-weaker (part (session_in t)) (Leaves (step t.state.state.workspaces) (session_in t)) _ (leaves (session_in t))
    (λ v x. leaves-on workspaces (step workspaces) w (session_in t) v here
    (subst (λ (ws : Workspaces). Leaves (step ws) (session_in t) v) here.workspaces x)))) next

closing-ends : (workspaces : Workspaces) (w : TurnState State) (t : TurnState Turning) → Leaves workspaces w (session_in t)
    → IfOk (closing_part t) (Ends (Later workspaces w))
unfolding closing_part
closing-ends workspaces w t here =
    IfOk-within state_in with_state (turn_closed t.state.facts) t (Ends (Later workspaces w))
    (IfOk-weaker (turn_closed t.state.facts (session_in t)) (Closes (session_in t)) _ (closing-closes t.state.facts (session_in t))
    (λ v x. record { closing = session_in t; leaves = here; closes = x }))

-- fetches may start or not
pub record Behind (w v : TurnState State) : Type 0 where
  pub may : Bool
  pub later : Later (begun_behind may w.state.workspaces) w v

later-ends : (event : Event) (t : TurnState Turning)
    → IfOk (and_then (quiet_part (Next event) t) (λ t. and_then (publish_part t) (λ t. and_then (fetch_part (Next event) t)
    (λ t. and_then (build_part t) (λ t. and_then (prime_part t) (λ t. and_then (status_part t) closing_part)))))) (Ends (Behind (session_in t)))
unfolding quiet_part publish_part fetch_part build_part status_part
later-ends event t =
    let w : TurnState State = session_in t in
    let ws : Workspaces = t.state.state.workspaces in
    let Goal : TurnState State → Type 0 = Behind w in
    goes-on Goal (λ x. x) ws w (quiet_done (Next event) t.state.facts) _ t (leaves-none w) (quiet-leaves (Next event) t.state.facts)
    (λ t x. goes-on Goal (λ x. x) ws w (λ w. Ok (marked_published w)) _ t x marked-leave
    (λ t x. let may : Bool = may_start (Next event) t.state.state.client.settings in
    goes-on Goal (with_fetches (start_fetch may)) ws w (fetch_started may) _ t x (fetch-leaves may)
    (λ t x. goes-on Goal runs_begun (with_fetches (start_fetch may) ws) w runs_started _ t x runs-leave
    (λ t x. goes-on Goal (λ x. x) (begun_behind may ws) w status_done closing_part t x status-leaves
    (λ t x. IfOk-weaker (closing_part t) (Ends (Later (begun_behind may ws) w)) (Ends Goal) (closing-ends (begun_behind may ws) w t x)
    (λ v y. record { may = may; later = y }))))))

-- ---- whole turns

-- a turn that takes in this event
pub record Split (meaning : Meaning) (s : State) (event : Event) (v : TurnState State) : Type 0 where
  pub happened : TurnState State
  pub switched : TurnState State
  pub processed : TurnState State
  pub takes : event_taken meaning event (turn_start s) ≡ Ok happened
  pub switches : switch_done happened ≡ Ok switched
  pub processes : files_done switched ≡ Ok processed
  pub before : before_quiet meaning (Next event) s
      ≡ record {
        state = processed.state;
        facts = record (facts_before (turn_start s)) { crates = crates_come happened.state; processed = some_processed switched.state.files };
      }
  pub behind : Behind processed v

-- the files, and what is known of them
files-is : (t : TurnState Turning) → IfOk (files_part t) (λ v. (files_part t ≡ Ok v) × (files_done (session_in t) ≡ Ok (session_in v))
    × (v.state.facts ≡ record t.state.facts { processed = some_processed t.state.state.files }))
unfolding files_part
files-is t = both (files_part t) (IfOk-self (files_part t))
    (IfOk-and_then (in_state files_done t) _ (Is files_done t) Known (within-is files_done t)
    (λ v is. (is.is, ap (λ (f : FactsBefore). record f { processed = some_processed t.state.state.files }) is.facts)))
  where
    Known : TurnState Turning → Type 0
    Known v = (files_done (session_in t) ≡ Ok (session_in v)) × (v.state.facts ≡ record t.state.facts { processed = some_processed t.state.state.files })

    both : (r : Result (TurnState Turning) Counter) → IfOk r (λ v. r ≡ Ok v) → IfOk r Known
        → IfOk r (λ v. (r ≡ Ok v) × (files_done (session_in t) ≡ Ok (session_in v))
        × (v.state.facts ≡ record t.state.facts { processed = some_processed t.state.state.files }))
    both (Ok v) p q = (p, q.0, q.1)
    both (Err counter) p q = tt

-- the switch, and whether crate data comes with it
record Switched (t v : TurnState Turning) : Type 0 where
  whole : switch_part t ≡ Ok v
  is : switch_done (session_in t) ≡ Ok (session_in v)
  facts : v.state.facts ≡ record t.state.facts { crates = crates_come t.state.state }

abbrev SwitchKnown : TurnState Turning → TurnState Turning → Type 0
SwitchKnown t v = (switch_done (session_in t) ≡ Ok (session_in v)) × (v.state.facts ≡ record t.state.facts { crates = crates_come t.state.state })

switch-known : (t : TurnState Turning) → IfOk (switch_part t) (SwitchKnown t)
unfolding switch_part
switch-known t =
    IfOk-and_then (in_state switch_done t) _ (Is switch_done t) (SwitchKnown t) (within-is switch_done t)
    (λ v is. (is.is, ap (λ (f : FactsBefore). record f { crates = crates_come t.state.state }) is.facts))

switched-is : (t : TurnState Turning) → IfOk (switch_part t) (Switched t)
switched-is t = both (switch_part t) refl (switch-known t)
  where
    both : (r : Result (TurnState Turning) Counter) → r ≡ switch_part t → IfOk r (SwitchKnown t) → IfOk r (Switched t)
    both (Ok v) same known = record { whole = sym same; is = known.0; facts = known.1 }
    both (Err counter) same known = tt

stands : (meaning : Meaning) (s : State) (event : Event) (a b c : TurnState Turning) → Is (event_taken meaning event) (turning (turn_start s)) a
    → Switched a b
    → (files_part b ≡ Ok c) × (files_done (session_in b) ≡ Ok (session_in c))
    × (c.state.facts ≡ record b.state.facts { processed = some_processed b.state.state.files })
    → before_quiet meaning (Next event) s
    ≡ record {
      state = c.state.state;
      facts = record (facts_before (turn_start s)) { crates = crates_come a.state.state; processed = some_processed b.state.state.files };
    }
unfolding event_part
stands meaning s event a b c taken made filed =
    ap (λ r. (result_unwrap_or r (turning (turn_start s))).state)
    (ap (λ r. and_then r (λ w. and_then (switch_part w) files_part)) taken.whole ∙ ap (λ r. and_then r files_part) made.whole ∙ filed.0)
    ∙ ap (λ (f : FactsBefore). let t : Turning = record { state = c.state.state; facts = f } in t)
    (filed.2 ∙ ap (λ (f : FactsBefore). record f { processed = some_processed b.state.state.files })
    (made.facts ∙ ap (λ (f : FactsBefore). record f { crates = crates_come a.state.state }) taken.facts))

pub step-splits : (meaning : Meaning) (s : State) (event : Event) → IfOk (step meaning (Next event) (turn_start s)) (Split meaning s event)
unfolding step event_part
step-splits meaning s event =
    let t : TurnState Turning = turning (turn_start s) in
    let Goal : TurnState State → Type 0 = Split meaning s event in
    IfOk-and_then (and_then (event_part meaning event t) (later_parts (Next event))) turned (Ends Goal) Goal
    (IfOk-and_then (event_part meaning event t) (later_parts (Next event)) (Is (event_taken meaning event) t) (Ends Goal)
    (within-is (event_taken meaning event) t)
    (λ a taken. IfOk-and_then (switch_part a) _ (Switched a) (Ends Goal) (switched-is a)
    (λ b made. IfOk-and_then (files_part b) _ _ (Ends Goal) (files-is b)
    (λ c filed. IfOk-weaker _ (Ends (Behind (session_in c))) (Ends Goal) (later-ends event c)
    (λ v x. record {
      happened = session_in a;
      switched = session_in b;
      processed = session_in c;
      takes = taken.is;
      switches = made.is;
      processes = filed.1;
      before = stands meaning s event a b c taken made filed;
      behind = x;
    })))))
    (λ v h. h)

-- the start
pub record StartSplit (s : State) (v : TurnState State) : Type 0 where
  pub discover : Bool
  pub may : Bool
  pub later : Later (with_fetches (start_fetch may) (with_fetches (start_up discover) s.workspaces)) (turn_start s) v

begins : (s : State) (t : TurnState Turning) → Leaves s.workspaces (turn_start s) (session_in t)
    → IfOk (and_then (in_state begun_fetches t) (λ w. and_then (fetch_part Start w) closing_part)) (Ends (StartSplit s))
unfolding fetch_part
begins s t x =
    let w : TurnState State = turn_start s in
    let Goal : TurnState State → Type 0 = StartSplit s in
    let discover : Bool = discovers t.state.state.client.settings in
    let begun : Workspaces = with_fetches (start_up discover) s.workspaces in
    IfOk-and_then (in_state begun_fetches t) _ (λ v. Leaves begun w (session_in v)) (Ends Goal)
    (IfOk-within state_in with_state begun_fetches t (λ v. Leaves begun w (session_in v))
    (IfOk-weaker (begun_fetches (session_in t)) (Leaves (with_fetches (start_up discover) t.state.state.workspaces) (session_in t)) _
    (begun-leaves (session_in t))
    (λ v y. leaves-on s.workspaces begun w (session_in t) v x
    (subst (λ (ws : Workspaces). Leaves (with_fetches (start_up discover) ws) (session_in t) v) x.workspaces y))))
    (λ t x. let may : Bool = may_start Start t.state.state.client.settings in
    goes-on Goal (with_fetches (start_fetch may)) begun w (fetch_started may) closing_part t x (fetch-leaves may)
    (λ t x. IfOk-weaker (closing_part t) (Ends (Later (with_fetches (start_fetch may) begun) w)) (Ends Goal)
    (closing-ends (with_fetches (start_fetch may) begun) w t x) (λ v y. record { discover = discover; may = may; later = y })))

pub start-splits : (meaning : Meaning) (s : State) → IfOk (step meaning Start (turn_start s)) (StartSplit s)
unfolding step status_part register_part begin_part fetch_part
start-splits meaning s =
    let t : TurnState Turning = turning (turn_start s) in
    let w : TurnState State = turn_start s in
    let Goal : TurnState State → Type 0 = StartSplit s in
    IfOk-and_then (start_parts t) turned (Ends Goal) Goal
    (goes-on Goal (λ x. x) s.workspaces w status_done _ t (leaves-none w) status-leaves
    (λ t x. goes-on Goal (λ x. x) s.workspaces w saves_registered _ t x registers-leave
    (λ t x. begins s t x)))
    (λ v h. h)
