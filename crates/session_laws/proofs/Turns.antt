-- A whole turn, part by part, for what each of its parts keeps.
use Rattle.std.proofs.Common.{◌≡◌, Bool, refl, ap}
use Rattle.std.specs.Prelude.{Result, Ok, IfOk}
use Rattle.session_port.specs.TurnState.{TurnState, and_then}
use Rattle.session_port.specs.declared.fault.Counter.{Counter}
use Rattle.desk.specs.Meaning.{Meaning}
use Rattle.desk_laws.proofs.Results.{IfOk-and_then, IfOk-weaker, IfOk-within}
use Rattle.session_model.specs.Machine.{begin_part, begun_fetches, build_part, closing_part, event_part, event_taken, facts_before, fetch_part, fetch_started}
use Rattle.session_model.specs.Machine.{crates_come, knowing_crates}
use Rattle.session_model.specs.Machine.{files_done, files_part, in_state, knowing, later_parts, marked_published, prime_part, publish_part, quiet_done, quiet_part, register_part}
use Rattle.session_model.specs.Machine.{runs_started, saves_registered, some_processed, start_parts, state_in, status_done, status_part, step, switch_done}
use Rattle.session_model.specs.Machine.{switch_part, turn_closed, turned, Turning, turning, with_state}
use Rattle.session_model.specs.Run.{turn_start}
use Rattle.session_model.specs.State.{State, may_start}
use Rattle.session_model.specs.declared.facts.FactsBefore.{FactsBefore}
use Rattle.session_model.specs.declared.input.Event.{Event}
use Rattle.session_model.specs.declared.input.Input.{Input}
use Rattle.session_model.specs.declared.input.Input.TheVariants.{Start, Next}

-- the session within a turn
abbrev pub session_in : TurnState Turning → TurnState State
session_in t = record { state = t.state.state; out = t.out }

-- what a turn keeps of its facts
abbrev pub KeepsFactsBefore : FactsBefore → FactsBefore → Type 0
KeepsFactsBefore old new = new ≡ record old { crates = new.crates; processed = new.processed }

-- this holds in a turn that has these facts
record Going (P : TurnState State → Type 0) (facts : FactsBefore) (t : TurnState Turning) : Type 0 where
  here : P (session_in t)
  same : KeepsFactsBefore facts t.state.facts

-- the turn goes on to its end
abbrev pub Closes : (TurnState State → Type 0) → (TurnState State → Type 0) → FactsBefore → Type 0
Closes P Goal facts = (w : TurnState State) (now : FactsBefore) → KeepsFactsBefore facts now → P w → IfOk (turn_closed now w) Goal

-- what is so behind the event of a turn; and at the start, which has neither a switch nor files, what is so behind these
abbrev pub Begins : Meaning → State → Input → (TurnState State → Type 0) → (TurnState State → Type 0) → Type 0
Begins meaning s Start P Q = Q (turn_start s)
Begins meaning s (Next event) P Q = IfOk (event_taken meaning event (turn_start s)) P

-- each step of this relation keeps it
abbrev pub Keeps : (TurnState State → TurnState State → Type 0) → (TurnState State → Type 0) → Type 0
Keeps R S = (w v : TurnState State) → S w → R w v → S v

-- what the parts behind the files do, and those of the start
pub record Parts (R : TurnState State → TurnState State → Type 0) : Type 0 where
  pub quiet : (input : Input) (facts : FactsBefore) (w : TurnState State) → IfOk (quiet_done input facts w) (R w)
  pub publish : (w : TurnState State) → R w (marked_published w)
  pub fetch : (may : Bool) (w : TurnState State) → IfOk (fetch_started may w) (R w)
  pub runs : (w : TurnState State) → IfOk (runs_started w) (R w)
  pub status : (w : TurnState State) → IfOk (status_done w) (R w)
  pub registers : (w : TurnState State) → IfOk (saves_registered w) (R w)
  pub begins : (w : TurnState State) → IfOk (begun_fetches w) (R w)

-- one part, of a turn that has these facts
going-behind : (P Q : TurnState State → Type 0) (facts : FactsBefore) (part : TurnState State → Result (TurnState State) Counter) (t : TurnState Turning) → Going P facts t
    → ((w : TurnState State) → P w → IfOk (part w) Q) → IfOk (in_state part t) (Going Q facts)
going-behind P Q facts part t g does =
    IfOk-within state_in with_state part t (Going Q facts)
    (IfOk-weaker (part (session_in t)) Q _ (does (session_in t) g.here) (λ v q. record { here = q; same = g.same }))

switch-behind : (P Q : TurnState State → Type 0) (facts : FactsBefore) (t : TurnState Turning) → Going P facts t
    → ((w : TurnState State) → P w → IfOk (switch_done w) Q) → IfOk (switch_part t) (Going Q facts)
unfolding switch_part
switch-behind P Q facts t g does =
    let come : Bool = crates_come t.state.state in
    IfOk-and_then (in_state switch_done t) (λ v. Ok (knowing_crates come v)) (Going Q facts) (Going Q facts) (going-behind P Q facts switch_done t g does)
    (λ v h. record { here = h.here; same = ap (λ (f : FactsBefore). record f { crates = come }) h.same })

files-behind : (Q S : TurnState State → Type 0) (facts : FactsBefore) (t : TurnState Turning) → Going Q facts t → ((w : TurnState State) → Q w → IfOk (files_done w) S)
    → IfOk (files_part t) (Going S facts)
unfolding files_part
files-behind Q S facts t g does =
    let some : Bool = some_processed t.state.state.files in
    IfOk-and_then (in_state files_done t) (λ v. Ok (knowing some v)) (Going S facts) (Going S facts) (going-behind Q S facts files_done t g does)
    (λ v h. record { here = h.here; same = ap (λ (f : FactsBefore). record f { processed = some }) h.same })

module _ (R : TurnState State → TurnState State → Type 0) (parts : Parts R) (S Goal : TurnState State → Type 0) (keeps : Keeps R S) where
  module _ (facts : FactsBefore) (closes : Closes S Goal facts) where
    -- this is so where the turn is closed
    abbrev Ends : TurnState Turning → Type 0
    Ends t = Goal (session_in t)

    -- a part, and then the others
    goes-on : (part : TurnState State → Result (TurnState State) Counter) (rest : TurnState Turning → Result (TurnState Turning) Counter) (t : TurnState Turning)
        → Going S facts t → ((w : TurnState State) → IfOk (part w) (R w)) → ((v : TurnState Turning) → Going S facts v → IfOk (rest v) Ends)
        → IfOk (and_then (in_state part t) rest) Ends
    goes-on part rest t g owes next =
        IfOk-and_then (in_state part t) rest (Going S facts) Ends
        (going-behind S S facts part t g (λ w s. IfOk-weaker (part w) (R w) S (owes w) (λ v p. keeps w v s p))) next

    closing : (t : TurnState Turning) → Going S facts t → IfOk (closing_part t) Ends
    unfolding closing_part
    closing t g = IfOk-within state_in with_state (turn_closed t.state.facts) t Ends (closes (session_in t) t.state.facts g.same g.here)

    -- behind a switch and the files
    later : (event : Event) (t : TurnState Turning) → Going S facts t
        → IfOk (and_then (quiet_part (Next event) t) (λ t. and_then (publish_part t) (λ t. and_then (fetch_part (Next event) t)
        (λ t. and_then (build_part t) (λ t. and_then (prime_part t) (λ t. and_then (status_part t) closing_part)))))) Ends
    unfolding quiet_part publish_part fetch_part build_part status_part
    later event t g =
        goes-on (quiet_done (Next event) t.state.facts) _ t g (parts.quiet (Next event) t.state.facts)
        (λ t g. goes-on (λ w. Ok (marked_published w)) _ t g parts.publish
        (λ t g. goes-on (fetch_started (may_start (Next event) t.state.state.client.settings)) _ t g (parts.fetch _)
        (λ t g. goes-on runs_started _ t g parts.runs
        (λ t g. goes-on status_done closing_part t g parts.status closing))))

    starting : (t : TurnState Turning) → Going S facts t → IfOk (start_parts t) Ends
    unfolding status_part register_part begin_part fetch_part
    starting t g =
        goes-on status_done _ t g parts.status
        (λ t g. goes-on saves_registered _ t g parts.registers
        (λ t g. goes-on begun_fetches _ t g parts.begins
        (λ t g. goes-on (fetch_started (may_start Start t.state.state.client.settings)) closing_part t g (parts.fetch _) closing)))

-- a whole turn: its event comes to P, a switch to Q and the files to S, which each other part keeps
pub turn-ends : (R : TurnState State → TurnState State → Type 0) (parts : Parts R) (meaning : Meaning) (s : State) (input : Input)
    (P Q S Goal : TurnState State → Type 0)
    → Keeps R S → ((w : TurnState State) → P w → IfOk (switch_done w) Q) → ((w : TurnState State) → Q w → IfOk (files_done w) S)
    → Begins meaning s input P S → Closes S Goal (facts_before (turn_start s)) → IfOk (step meaning input (turn_start s)) Goal
unfolding step event_part
turn-ends R parts meaning s Start P Q S Goal keeps switches files first closes =
    let t : TurnState Turning = turning (turn_start s) in
    IfOk-and_then (start_parts t) turned (λ v. Goal (session_in v)) Goal
    (starting R parts S Goal keeps (facts_before (turn_start s)) closes t (record { here = first; same = refl })) (λ v h. h)
turn-ends R parts meaning s (Next event) P Q S Goal keeps switches files first closes =
    let t : TurnState Turning = turning (turn_start s) in
    let facts : FactsBefore = facts_before (turn_start s) in
    let Ends : TurnState Turning → Type 0 = λ v. Goal (session_in v) in
    IfOk-and_then (and_then (event_part meaning event t) (later_parts (Next event))) turned Ends Goal
    (IfOk-and_then (event_part meaning event t) (later_parts (Next event)) (Going P facts) Ends
    (IfOk-within state_in with_state (event_taken meaning event) t (Going P facts)
    (IfOk-weaker (event_taken meaning event (turn_start s)) P _ first (λ v p. record { here = p; same = refl })))
    (λ t g. IfOk-and_then (switch_part t) _ (Going Q facts) Ends (switch-behind P Q facts t g switches)
    (λ t g. IfOk-and_then (files_part t) _ (Going S facts) Ends (files-behind Q S facts t g files)
    (λ t g. later R parts S Goal keeps facts closes event t g))))
    (λ v h. h)
