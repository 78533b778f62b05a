-- A turn, as it is to the board: acts that fit, a batch that may count, and the marks that are taken; what was marked is published, and nothing else.
use Rattle.std.proofs.Common.{◌≡◌, List, Bool, refl, sym, ap, ◌∙◌, subst}
use Rattle.std.specs.Prelude.{Result, Ok, Err, IfOk}
use Rattle.session_port.specs.Jobs.{after_batch}
use Rattle.session_port.specs.TurnState.{TurnState, and_then}
use Rattle.session_port.specs.declared.event.TaskMsg.{TaskMsg}
use Rattle.session_port.specs.declared.fault.Counter.{Counter}
use Rattle.desk.specs.Meaning.{Meaning}
use Rattle.desk_laws.proofs.Results.{IfOk-and_then, IfOk-weaker, IfOk-within}
use Rattle.session_files.specs.Current.{IsSound}
use Rattle.session_model.specs.Inputs.{batch_of}
use Rattle.session_model.specs.Machine.{Turning, begin_part, begun_fetches, build_part, closing_part, event_part, event_taken, fetch_part}
use Rattle.session_model.specs.Machine.{fetch_started, files_done, files_part, in_state}
use Rattle.session_model.specs.Machine.{crates_come, knowing, knowing_crates, marked_published, publish_part, quiet_done, quiet_part, register_part, runs_started}
use Rattle.session_model.specs.Machine.{saves_registered, some_processed, start_parts}
use Rattle.session_model.specs.Machine.{state_in, status_done, status_part, step, switch_done, switch_part, turn_closed, turned, turning, with_state}
use Rattle.session_model.specs.OwnJobs.{before_quiet, parts_before_quiet}
use Rattle.session_model.specs.Run.{turn_start}
use Rattle.session_model.specs.State.{State, may_start}
use Rattle.session_model.specs.declared.input.Event.{Event}
use Rattle.session_model.specs.declared.input.Input.TheVariants.{Start, Next}
use Rattle.session_laws.proofs.OwnJobs.{parts_from_fetch, quiet-is, quiet-split, step-split}
use Rattle.session_laws.proofs.Turns.{session_in}
use Rattle.diagnostics_laws.specs.Batches.{brought_past}
use Rattle.diagnostics_laws.proofs.Batching.{IsBatched, Kept, TakesMarks, begun-kept, both-of, closed-kept, due_in, fetch-kept, kept-on, marked-takes}
use Rattle.diagnostics_laws.proofs.Batching.{quiet-batched, registers-kept, runs-kept}
use Rattle.diagnostics_laws.proofs.Batching.{status-kept}
use Rattle.diagnostics_laws.proofs.Messages.{BatchGoes, InputGoes, event-goes, files-done-go, switch-goes}
use Rattle.diagnostics_laws.proofs.MessagesEnds.{JobsFit}
use Rattle.diagnostics_laws.proofs.Sounding.{Goes, brings_none, goes-by, left_out}

-- an answer is itself
answer-is : {X E : Type 0} (r : Result X E) → IfOk r (λ x. r ≡ Ok x)
answer-is (Ok x) = refl
answer-is (Err e) = tt

-- a part of the session within a turn
in-part : (Q : TurnState State → Type 0) (part : TurnState State → Result (TurnState State) Counter) (t : TurnState Turning)
    → IfOk (part (session_in t)) Q
    → IfOk (in_state part t) (λ v. Q (session_in v))
in-part Q part t q = IfOk-within state_in with_state part t (λ v. Q (session_in v)) q

-- ---- behind the files

-- a batch, and then what brings nothing
then-goes : (batch : List TaskMsg) (w v u : TurnState State) → BatchGoes batch w v → Goes v u → BatchGoes batch w u
then-goes batch w v u p q =
    goes-by (λ pass generation file before. brought_past batch w.state.desk.jobs pass generation file before) brings_none (after_batch batch) left_out
    w v u p q

before-goes : (meaning : Meaning) (s : State) (event : Event) → IsSound s.files → JobsFit s.board.generation s.files.table s.desk.jobs
    → IfOk (parts_before_quiet meaning (Next event) (turning (turn_start s))) (λ t. InputGoes (Next event) (turn_start s) (session_in t))
unfolding event_part switch_part files_part
before-goes meaning s event sound fit =
    let w : TurnState State = turn_start s in
    let Gone : TurnState State → Type 0 = InputGoes (Next event) w in
    let Ends : TurnState Turning → Type 0 = λ t. Gone (session_in t) in
    IfOk-and_then (event_part meaning event (turning w)) _ Ends
    Ends (in-part Gone (event_taken meaning event) (turning w) (event-goes meaning event w sound fit))
    (λ a g. IfOk-and_then (switch_part a) files_part Ends Ends
    (IfOk-and_then (in_state switch_done a) (λ v. Ok (knowing_crates (crates_come a.state.state) v)) Ends Ends
    (in-part Gone switch_done a (IfOk-weaker (switch_done (session_in a)) (Goes (session_in a))
    Gone (switch-goes (session_in a)) (λ v p. then-goes (batch_of (Next event)) w (session_in a) v g p)))
    (λ v g. g))
    (λ b h. IfOk-and_then (in_state files_done b) (λ v. Ok (knowing (some_processed b.state.state.files) v)) Ends Ends
    (in-part Gone files_done b (IfOk-weaker (files_done (session_in b)) (Goes (session_in b))
    Gone (files-done-go (session_in b)) (λ v p. then-goes (batch_of (Next event)) w (session_in b) v h p)))
    (λ v g. g)))

-- ---- a whole turn

-- before its fetch
record Half (meaning : Meaning) (s : State) (event : Event) (p : TurnState Turning) : Type 0 where
  t : TurnState Turning
  before : before_quiet meaning (Next event) s ≡ t.state
  goes : InputGoes (Next event) (turn_start s) (session_in t)
  u : TurnState State
  batched : IsBatched (due_in (Next event) t.state.facts t.state.state) (session_in t) u
  takes : TakesMarks u (session_in p)

pub record Took (meaning : Meaning) (s : State) (event : Event) (v : TurnState State) : Type 0 where
  -- behind the files
  pub t : TurnState Turning
  pub before : before_quiet meaning (Next event) s ≡ t.state
  pub goes : InputGoes (Next event) (turn_start s) (session_in t)
  -- behind a batch
  pub u : TurnState State
  pub batched : IsBatched (due_in (Next event) t.state.facts t.state.state) (session_in t) u
  -- behind publishing
  pub p : TurnState State
  pub takes : TakesMarks u p
  pub kept : Kept p v

half : (meaning : Meaning) (s : State) (event : Event) (t : TurnState Turning)
    → parts_before_quiet meaning (Next event) (turning (turn_start s)) ≡ Ok t
    → InputGoes (Next event) (turn_start s) (session_in t) → IfOk (and_then (quiet_part (Next event) t) publish_part) (Half meaning s event)
unfolding quiet_part publish_part
half meaning s event t is goes =
    let due : Bool = due_in (Next event) t.state.facts t.state.state in
    IfOk-and_then (quiet_part (Next event) t) publish_part (λ u. IsBatched due (session_in t) (session_in u)) (Half meaning s event)
    (in-part (IsBatched due (session_in t)) (quiet_done (Next event) t.state.facts) t (quiet-batched (Next event) t.state.facts (session_in t)))
    (λ u b. IfOk-weaker (in_state (λ v. Ok (marked_published v)) u) (λ p. TakesMarks (session_in u) (session_in p)) (Half meaning s event)
    (in-part (TakesMarks (session_in u)) (λ v. Ok (marked_published v)) u (marked-takes (session_in u)))
    (λ p m. record { t = t; before = quiet-is meaning (Next event) s t is; goes = goes; u = session_in u; batched = b; takes = m }))

-- a part that keeps it, and then the others
kept-part : (part : TurnState State → Result (TurnState State) Counter) (rest : TurnState Turning → Result (TurnState Turning) Counter)
    (w : TurnState State)
    (t : TurnState Turning) → Kept w (session_in t) → ((v : TurnState State) → IfOk (part v) (Kept v))
    → ((v : TurnState Turning) → Kept w (session_in v) → IfOk (rest v) (λ x. Kept w (session_in x)))
    → IfOk (and_then (in_state part t) rest) (λ x. Kept w (session_in x))
kept-part part rest w t here keeps next =
    IfOk-and_then (in_state part t) rest (λ v. Kept w (session_in v)) (λ x. Kept w (session_in x))
    (in-part (Kept w) part t (IfOk-weaker (part (session_in t)) (Kept (session_in t)) (Kept w) (keeps (session_in t))
    (λ v k. kept-on w (session_in t) v here k))) next

closing-kept : (w : TurnState State) (t : TurnState Turning) → Kept w (session_in t) → IfOk (closing_part t) (λ x. Kept w (session_in x))
unfolding closing_part
closing-kept w t here =
    in-part (Kept w) (turn_closed t.state.facts) t
    (IfOk-weaker (turn_closed t.state.facts (session_in t)) (Kept (session_in t)) (Kept w) (closed-kept t.state.facts (session_in t))
    (λ v k. kept-on w (session_in t) v here k))

none-kept : (w : TurnState State) → Kept w w
none-kept w = record { board = refl; files = refl; told = refl }

later-kept : (event : Event) (t : TurnState Turning) → IfOk (parts_from_fetch (Next event) t) (λ x. Kept (session_in t) (session_in x))
unfolding fetch_part build_part status_part
later-kept event t =
    let w : TurnState State = session_in t in
    kept-part (fetch_started (may_start (Next event) t.state.state.client.settings)) _ w t (none-kept w) (fetch-kept _)
    (λ t k. kept-part runs_started _ w t k runs-kept (λ t k. kept-part status_done closing_part w t k status-kept (closing-kept w)))

pub step-took : (meaning : Meaning) (s : State) (event : Event) → IsSound s.files → JobsFit s.board.generation s.files.table s.desk.jobs
    → IfOk (step meaning (Next event) (turn_start s)) (Took meaning s event)
step-took meaning s event sound fit =
    let w : TurnState State = turn_start s in
    let before = parts_before_quiet meaning (Next event) (turning w) in
    let quiet : TurnState Turning → Result (TurnState Turning) Counter = λ t. and_then (quiet_part (Next event) t) publish_part in
    let later = parts_from_fetch (Next event) in
    let Ends : TurnState Turning → Type 0 = λ x. Took meaning s event (session_in x) in
    let same : step meaning (Next event) w ≡ and_then (and_then (and_then before quiet) later) turned =
    step-split meaning (Next event) s ∙ ap (λ r. and_then (and_then r later) turned) (quiet-split meaning event (turning w)) in
    subst (λ r. IfOk r (Took meaning s event)) (sym same)
    (IfOk-and_then (and_then (and_then before quiet) later) turned Ends (Took meaning s event)
    (IfOk-and_then (and_then before quiet) later (Half meaning s event) Ends
    (IfOk-and_then before quiet (λ t. (before ≡ Ok t) × InputGoes (Next event) w (session_in t)) (Half meaning s event)
    (both-of before (λ t. before ≡ Ok t) (λ t. InputGoes (Next event) w (session_in t)) (answer-is before) (before-goes meaning s event sound fit))
    (λ t (is, goes). half meaning s event t is goes))
    (λ p h. IfOk-weaker (later p) (λ x. Kept (session_in p) (session_in x)) Ends (later-kept event p)
    (λ x k. record { t = h.t; before = h.before; goes = h.goes; u = h.u; batched = h.batched; p = session_in p; takes = h.takes; kept = k })))
    (λ v h. h))

-- ---- the start

pub start-kept : (meaning : Meaning) (s : State) → IfOk (step meaning Start (turn_start s)) (Kept (turn_start s))
unfolding step status_part register_part begin_part fetch_part
start-kept meaning s =
    let w : TurnState State = turn_start s in
    let t : TurnState Turning = turning w in
    IfOk-and_then (start_parts t) turned (λ x. Kept w (session_in x)) (Kept w)
    (kept-part status_done _ w t (none-kept w) status-kept
    (λ t k. kept-part saves_registered _ w t k registers-kept
    (λ t k. kept-part begun_fetches _ w t k begun-kept
    (λ t k. kept-part (fetch_started (may_start Start t.state.state.client.settings)) closing_part w t k (fetch-kept _) (closing-kept w)))))
    (λ v h. h)
