-- What a turn hands over: the jobs of its row, and then the session's own.
use Rattle.std.proofs.Common.{◌≡◌, ℕ, ◌+◌, ◌≤◌, List, [], ◌∷◌, ◌++◌, length, Bool, true, false, refl, sym, ap, ◌∙◌, subst, arith}
use Rattle.std.proofs.lemmas.List.{append-nil, append_assoc}
use Rattle.std.proofs.lemmas.Result.{IfOk-at_ok}
use Rattle.std.specs.Prelude.{◌==◌, Result, Ok, Err, IfOk, if◌then◌else◌}
use Rattle.session_port.specs.Record.{spawned}
use Rattle.session_port.specs.TurnState.{TurnState, and_then, ordered, lifted}
use Rattle.session_port.specs.declared.command.Command.{Command}
use Rattle.session_port.specs.declared.command.Command.TheVariants.{Revise, Timer as SetTimer}
use Rattle.session_port.specs.declared.command.DeferredTask.{DeferredTask}
use Rattle.session_port.specs.declared.fault.Counter.{Counter}
use Rattle.session_port.specs.declared.job.Job.{Job}
use Rattle.desk.specs.Desk.{Desk}
use Rattle.desk.specs.Folds.{asked_among, is_for_request}
use Rattle.desk.specs.Meaning.{Meaning}
use Rattle.desk.specs.Steps.{jobs_kept as kept_at_desk}
use Rattle.desk_laws.proofs.Appends.{spawned-append}
use Rattle.desk_laws.proofs.Results.{IfOk-and_then, IfOk-weaker, IfOk-within}
use Rattle.workspaces.specs.Fetches.{fires, start_up}
use Rattle.session_model.specs.Fetching.{with_fetches}
use Rattle.session_model.specs.Machine.{Turning, all_resumed, begin_part, build_part, turn_closed, closing_part, turn_counted, event_part, fetch_part}
use Rattle.session_model.specs.Machine.{batch_done, came_or_went, checks_done, crates_come, knowing_crates, marked_published, publish_part, refreshes_done}
use Rattle.session_model.specs.Machine.{fetch_started, files_done, files_part, happened, in_state, desk_kept, knowing, quiet_part, register_part, revised}
use Rattle.session_model.specs.Machine.{runs_started, some_processed, state_in, at_workspaces, begun_fetches, quiet_done, saves_registered, status_done}
use Rattle.session_model.specs.Machine.{status_part, step, switch_done, switch_part, event_taken, timer_set, turned, turning, with_desk, with_state}
use Rattle.session_model.specs.OwnJobs.{batch_jobs_due, before_quiet, parts_before_quiet}
use Rattle.session_model.specs.OwnJobs.{OwnJob, checks_among_tasks, checks_back, fetch_jobs, jobs_due, numbered_behind, own_jobs, parts_before_fetch, run_jobs}
use Rattle.session_model.specs.Rows.{turn_row, turn_begun}
use Rattle.session_model.specs.Run.{Steps, Turn, turn_start}
use Rattle.session_model.specs.State.{State, discovers, may_start}
use Rattle.session_model.specs.declared.facts.FactsBefore.{FactsBefore}
use Rattle.session_model.specs.declared.input.Event.{Event}
use Rattle.session_model.specs.declared.input.Event.TheVariants.{Lsp, Task, Vfs, Deferred, News, Timer}
use Rattle.session_model.specs.declared.input.Input.{Input}
use Rattle.session_model.specs.declared.input.Input.TheVariants.{Start, Next}
use Rattle.session_laws.specs.Beside.{Aside, Beside}
use Rattle.session_laws.specs.Invariant.{place_of_state}
use Rattle.session_laws.proofs.Asides.{aside-speaks}
use Rattle.session_laws.proofs.Beside.{beside-spawned}
use Rattle.session_laws.proofs.Counting.{Counts, given, state_ahead}
use Rattle.session_laws.proofs.EventCounts.{for_event_part, taken_in-does}
use Rattle.session_laws.proofs.Announcing.{Announces, announcing, checks-done-owe, refreshes-owe}
use Rattle.session_laws.proofs.OwnJobs.{announces-over, batch-done-over, batch_due, due-same, quiet-is, quiet-split}
use Rattle.session_laws.proofs.OwnJobs.{FetchOver, HandedOver, HandsOver, before-is, checks-over, checks-same, fetch-over, fetch_begun, hands-none, hands-on}
use Rattle.session_laws.proofs.OwnJobs.{parts_from_fetch, plus-none, run-jobs-same, runs-over, step-split}
use Rattle.session_laws.proofs.Rows.{Behind, FilesDone, counted-is, files-done, taken-behind}
use Rattle.session_laws.proofs.Saying.{asked_if-owes, marked-owe, speaking, status-owes}
use Rattle.session_laws.proofs.Switching.{SwitchDone, switch-does}
use Rattle.session_laws.proofs.Telling.{Speaks}
use Rattle.session_laws.proofs.Turns.{session_in}

-- ---- parts that hand over nothing

length-none : (jobs : List Job) → length jobs ≤ 0 → jobs ≡ []
length-none [] le = refl
length-none (job ∷ jobs) le = absurd (omega (arith, le))

aside-over : (w v : TurnState State) → Aside w v → v.state.desk ≡ w.state.desk → HandsOver w [] v
aside-over w v a same =
    let b : Beside w v = a.beside in
    let kept : v.state.desk.last_job ≡ w.state.desk.last_job = ap (λ (d : Desk). d.last_job) same in
    let grown : v.state.desk.last_job ≡ w.state.desk.last_job + length (spawned b.commands) = ap (λ (d : Desk). d.last_job) b.desk in
    let nothing : spawned b.commands ≡ [] = length-none (spawned b.commands) (omega (arith, grown, kept)) in
    hands-none w v (beside-spawned w v b ∙ ap (λ (js : List Job). spawned w.out.commands ++ js) nothing ∙ append-nil _) same

part-over : (part : TurnState State → Result (TurnState State) Counter) (t : TurnState Turning) → IfOk (part (session_in t)) (HandsOver (session_in t) [])
    → IfOk (in_state part t) (λ v. HandsOver (session_in t) [] (session_in v))
part-over part t h = IfOk-within state_in with_state part t (λ v. HandsOver (session_in t) [] (session_in v)) h

speaks-over : (part : TurnState State → Result (TurnState State) Counter) (t : TurnState Turning) → IfOk (part (session_in t)) (Speaks (session_in t))
    → IfOk (in_state part t) (λ v. HandsOver (session_in t) [] (session_in v))
speaks-over part t h =
    let w : TurnState State = session_in t in
    part-over part t (IfOk-weaker (part w) (Speaks w) (HandsOver w []) h (λ v said. aside-over w v (aside-speaks w v said) said.desk))

-- what was handed over before a part that hands over nothing is so behind it
none-is : (jobs : List Job) (n : ℕ) (own : List OwnJob) (t : TurnState Turning) (r : Result (TurnState Turning) Counter) → HandedOver jobs n own (session_in t)
    → IfOk r (λ v. HandsOver (session_in t) [] (session_in v)) → IfOk r (λ v. HandedOver jobs n own (session_in v))
none-is jobs n own t r h nothing =
    IfOk-weaker r (λ v. HandsOver (session_in t) [] (session_in v)) _ nothing
    (λ v more. subst (λ (js : List OwnJob). HandedOver jobs n js (session_in v)) (append-nil own) (hands-on jobs n own [] (session_in t) (session_in v) h more))

none-on : (jobs : List Job) (n : ℕ) (own : List OwnJob) (t : TurnState Turning) (r : Result (TurnState Turning) Counter)
    (f : TurnState Turning → Result (TurnState Turning) Counter) (Goal : TurnState Turning → Type 0)
    → HandedOver jobs n own (session_in t) → IfOk r (λ v. HandsOver (session_in t) [] (session_in v))
    → ((v : TurnState Turning) → HandedOver jobs n own (session_in v) → IfOk (f v) Goal)
    → IfOk (and_then r f) Goal
none-on jobs n own t r f Goal h nothing next = IfOk-and_then r f (λ v. HandedOver jobs n own (session_in v)) Goal (none-is jobs n own t r h nothing) next

-- ---- the event

-- a job more is for a request, or it is not
one-few : (b : Bool) (job : Job) (asked jobs : List Job) → length asked ≤ length jobs → length (if b then job ∷ asked else asked) ≤ length (job ∷ jobs)
one-few true job asked jobs le = omega (arith, le)
one-few false job asked jobs le = omega (arith, le)

asked-few : (jobs : List Job) → length (asked_among jobs) ≤ length jobs
asked-few [] = omega arith
asked-few (job ∷ jobs) = one-few (is_for_request job) job (asked_among jobs) jobs (asked-few jobs)

one-all : (b : Bool) (job : Job) (asked jobs : List Job) → length asked ≤ length jobs → (length jobs ≤ length asked → asked ≡ jobs)
    → length (job ∷ jobs) ≤ length (if b then job ∷ asked else asked)
    → (if b then job ∷ asked else asked) ≡ job ∷ jobs
one-all true job asked jobs few all le = ap (λ (js : List Job). job ∷ js) (all (omega (arith, le)))
one-all false job asked jobs few all le = absurd (omega (arith, few, le))

-- where as many are for requests as there are, all of them are
all-asked : (jobs : List Job) → length jobs ≤ length (asked_among jobs) → asked_among jobs ≡ jobs
all-asked [] le = refl
all-asked (job ∷ jobs) le = one-all (is_for_request job) job (asked_among jobs) jobs (asked-few jobs) (all-asked jobs) le

asked-only : (meaning : Meaning) (s : State) (input : Input) (v : TurnState State) → Behind meaning s input v
    → v.state.desk.last_job ≤ s.desk.last_job + length (turn_row meaning input (place_of_state s)).jobs
    → HandedOver (turn_row meaning input (place_of_state s)).jobs (s.desk.last_job + length (turn_row meaning input (place_of_state s)).jobs) [] v
asked-only meaning s input v behind le =
    let jobs : List Job = (turn_row meaning input (place_of_state s)).jobs in
    let does : asked_among (spawned v.out.commands) ≡ jobs = behind.mid.serves.does.jobs in
    let last_job : v.state.desk.last_job ≡ s.desk.last_job + length (spawned v.out.commands) = ap (λ (d : Desk). d.last_job) behind.mid.serves.desk in
    let many : length (asked_among (spawned v.out.commands)) ≡ length jobs = ap (λ (js : List Job). length js) does in
    let all : asked_among (spawned v.out.commands) ≡ spawned v.out.commands = all-asked (spawned v.out.commands) (omega (arith, le, last_job, many)) in
    let as_many : length (spawned v.out.commands) ≡ length jobs = ap (λ (js : List Job). length js) (sym all) ∙ many in
    record { spawns = sym all ∙ does ∙ sym (append-nil jobs); last_job = last_job ∙ ap (λ n. s.desk.last_job + n) as_many ∙ plus-none (s.desk.last_job + length jobs) }

-- what the event of a turn hands over
abbrev EventOver : Meaning → State → Input → TurnState State → Type 0
EventOver meaning s input v =
    HandedOver (turn_row meaning input (place_of_state s)).jobs (s.desk.last_job + length (turn_row meaning input (place_of_state s)).jobs) (checks_back s input)
    v

no-checks : (meaning : Meaning) (s : State) (event : Event) (r : Result (TurnState State) Counter) → checks_back s (Next event) ≡ []
    → IfOk r (Behind meaning s (Next event)) → Counts state_ahead (for_event_part meaning s event) (given s) r → IfOk r (EventOver meaning s (Next event))
no-checks meaning s event (Ok v) nothing behind c =
    let jobs : List Job = (turn_row meaning (Next event) (place_of_state s)).jobs in
    let no : length (checks_back s (Next event)) ≡ 0 = ap (λ (own : List OwnJob). length own) nothing in
    let le : v.state.desk.last_job ≤ s.desk.last_job + (0 + ((length jobs + length (checks_back s (Next event))) + 0)) = c.jobs in
    subst (λ (own : List OwnJob). HandedOver jobs (s.desk.last_job + length jobs) own v) (sym nothing)
    (asked-only meaning s (Next event) v behind (omega (arith, le, no)))
no-checks meaning s event (Err counter) nothing behind c = tt

-- checks that come back, where the row is silent
deferred-over : (meaning : Meaning) (s : State) (tasks : List DeferredTask)
    → IfOk (event_taken meaning (Deferred tasks) (turn_start s)) (EventOver meaning s (Next (Deferred tasks)))
unfolding event_taken happened
deferred-over meaning s tasks =
    let Goal : TurnState State → Type 0 = λ v. HandedOver [] (s.desk.last_job + 0) (checks_among_tasks s tasks) v in
    IfOk-and_then (turn_counted (turn_start s)) (happened meaning (Deferred tasks)) (λ v. v ≡ turn_begun s) Goal (counted-is s)
    (λ v is. subst (λ w. IfOk (happened meaning (Deferred tasks) w) Goal) (sym is)
    (IfOk-weaker (all_resumed tasks (turn_begun s)) (HandsOver (turn_begun s) (checks_among_tasks (turn_begun s).state tasks)) Goal
    (checks-over tasks (turn_begun s))
    (λ v h. subst (λ n. HandedOver [] n (checks_among_tasks s tasks) v) (plus-none s.desk.last_job)
    (subst (λ (own : List OwnJob). HandedOver [] s.desk.last_job own v) (checks-same (turn_begun s).state.desk s tasks) h))))

plain-over : (meaning : Meaning) (s : State) (event : Event) → checks_back s (Next event) ≡ []
    → IfOk (event_taken meaning event (turn_start s)) (EventOver meaning s (Next event))
plain-over meaning s event nothing =
    no-checks meaning s event (event_taken meaning event (turn_start s)) nothing (taken-behind meaning s event) (taken_in-does meaning s event)

event-over : (meaning : Meaning) (s : State) (event : Event) → IfOk (event_taken meaning event (turn_start s)) (EventOver meaning s (Next event))
event-over meaning s (Lsp message) = plain-over meaning s (Lsp message) refl
event-over meaning s (Task batch) = plain-over meaning s (Task batch) refl
event-over meaning s (Vfs messages) = plain-over meaning s (Vfs messages) refl
event-over meaning s (Deferred tasks) = deferred-over meaning s tasks
event-over meaning s (News news) = plain-over meaning s (News news) refl
event-over meaning s (Timer ticket) = plain-over meaning s (Timer ticket) refl

-- ---- the parts behind it

switch-over : (t : TurnState Turning) → IfOk (switch_part t) (λ v. HandsOver (session_in t) [] (session_in v))
unfolding switch_part
switch-over t =
    let w : TurnState State = session_in t in
    let Goal : TurnState Turning → Type 0 = λ v. HandsOver w [] (session_in v) in
    IfOk-and_then (in_state switch_done t) (λ v. Ok (knowing_crates (crates_come t.state.state) v)) Goal Goal
    (part-over switch_done t (IfOk-weaker (switch_done w) (SwitchDone w) (HandsOver w []) (switch-does w) (λ v d. aside-over w v d.aside d.desk)))
    (λ v h. h)

files-over : (t : TurnState Turning) → IfOk (files_part t) (λ v. HandsOver (session_in t) [] (session_in v))
unfolding files_part
files-over t =
    let w : TurnState State = session_in t in
    let Goal : TurnState Turning → Type 0 = λ v. HandsOver w [] (session_in v) in
    IfOk-and_then (in_state files_done t) (λ v. Ok (knowing (some_processed t.state.state.files) v)) Goal Goal
    (part-over files_done t (IfOk-weaker (files_done w) (FilesDone w) (HandsOver w []) (files-done w) (λ v f. aside-over w v f.aside f.desk)))
    (λ v h. h)

quiet-done-over : (input : Input) (facts : FactsBefore) (w : TurnState State)
    → IfOk (quiet_done input facts w) (HandsOver w (batch_due (came_or_went input) facts w.state))
unfolding quiet_done
quiet-done-over input facts w =
    let came : Bool = came_or_went input in
    let due : List OwnJob = batch_due came facts w.state in
    IfOk-and_then (checks_done facts w) (λ w. and_then (refreshes_done facts w) (batch_done came facts)) (Announces w) (HandsOver w due)
    (checks-done-owe Announces announcing facts w)
    (λ v a. IfOk-and_then (refreshes_done facts v) (batch_done came facts) (Announces w) (HandsOver w due)
    (IfOk-weaker (refreshes_done facts v) (Announces v) (Announces w) (refreshes-owe Announces announcing facts v) (λ u b. announcing.on w v u a b))
    (λ u b. IfOk-weaker (batch_done came facts u) (HandsOver u (batch_due came facts u.state)) (HandsOver w due) (batch-done-over came facts u)
    (λ x h. hands-on (spawned w.out.commands) w.state.desk.last_job [] due u x (announces-over w u b)
    (subst (λ (own : List OwnJob). HandsOver u own x) (due-same came facts w u b) h))))

quiet-over : (event : Event) (t : TurnState Turning)
    → IfOk (quiet_part (Next event) t) (λ v. HandsOver (session_in t) (batch_jobs_due (Next event) t.state) (session_in v))
unfolding quiet_part
quiet-over event t =
    IfOk-within state_in with_state (quiet_done (Next event) t.state.facts) t
    (λ v. HandsOver (session_in t) (batch_jobs_due (Next event) t.state) (session_in v))
    (quiet-done-over (Next event) t.state.facts (session_in t))

publish-over : (t : TurnState Turning) → IfOk (publish_part t) (λ v. HandsOver (session_in t) [] (session_in v))
unfolding publish_part
publish-over t = speaks-over (λ w. Ok (marked_published w)) t (marked-owe Speaks speaking (session_in t))

status-over : (t : TurnState Turning) → IfOk (status_part t) (λ v. HandsOver (session_in t) [] (session_in v))
unfolding status_part
status-over t = speaks-over status_done t (status-owes Speaks speaking (session_in t))

register-over : (t : TurnState Turning) → IfOk (register_part t) (λ v. HandsOver (session_in t) [] (session_in v))
unfolding register_part saves_registered
register-over t = speaks-over saves_registered t (asked_if-owes Speaks speaking _ _ (session_in t))

begin-over : (t : TurnState Turning) → IfOk (begin_part t) (λ v. HandsOver (session_in t) [] (session_in v))
unfolding begin_part begun_fetches
begin-over t = part-over begun_fetches t
    (hands-none (session_in t) (at_workspaces (with_fetches (start_up (discovers t.state.state.client.settings))) (session_in t)) refl refl)

-- a part and what it was before the next one
is-then : (r : Result (TurnState Turning) Counter) (f : TurnState Turning → Result (TurnState Turning) Counter) (P Q : TurnState Turning → Type 0) → IfOk r P
    → ((t : TurnState Turning) → r ≡ Ok t → P t → IfOk (f t) Q) → IfOk (and_then r f) Q
is-then (Ok t) f P Q p next = next t refl p
is-then (Err counter) f P Q p next = tt

-- before what is done in a quiescent session a turn has handed over the jobs of its row and the checks that come back
before-quiet-over : (meaning : Meaning) (s : State) (event : Event) → IfOk (parts_before_quiet meaning (Next event) (turning (turn_start s)))
    (λ v. HandedOver (turn_row meaning (Next event) (place_of_state s)).jobs
    (s.desk.last_job + length (turn_row meaning (Next event) (place_of_state s)).jobs) (checks_back s (Next event)) (session_in v))
unfolding event_part
before-quiet-over meaning s event =
    let jobs : List Job = (turn_row meaning (Next event) (place_of_state s)).jobs in
    let n : ℕ = s.desk.last_job + length jobs in
    let own : List OwnJob = checks_back s (Next event) in
    let Goal : TurnState Turning → Type 0 = λ v. HandedOver jobs n own (session_in v) in
    IfOk-and_then (event_part meaning event (turning (turn_start s))) _ Goal Goal
    (IfOk-within state_in with_state (event_taken meaning event) (turning (turn_start s)) Goal (event-over meaning s event))
    (λ t h. none-on jobs n own t (switch_part t) files_part Goal h (switch-over t) (λ t h. none-is jobs n own t (files_part t) h (files-over t)))

-- before its fetch it has handed over what a batch asks too
before-over : (meaning : Meaning) (s : State) (input : Input) → IfOk (parts_before_fetch meaning input (turning (turn_start s)))
    (λ v. HandedOver (turn_row meaning input (place_of_state s)).jobs (s.desk.last_job + length (turn_row meaning input (place_of_state s)).jobs)
    (checks_back s input ++ batch_jobs_due input (before_quiet meaning input s)) (session_in v))
before-over meaning s Start =
    let n : ℕ = s.desk.last_job + 0 in
    let t : TurnState Turning = turning (turn_start s) in
    let Goal : TurnState Turning → Type 0 = λ v. HandedOver [] n [] (session_in v) in
    none-on [] n [] t (status_part t) _ Goal (record { spawns = refl; last_job = plus-none s.desk.last_job ∙ plus-none n }) (status-over t)
    (λ t h. none-on [] n [] t (register_part t) begin_part Goal h (register-over t) (λ t h. none-is [] n [] t (begin_part t) h (begin-over t)))
before-over meaning s (Next event) =
    let input : Input = Next event in
    let jobs : List Job = (turn_row meaning input (place_of_state s)).jobs in
    let n : ℕ = s.desk.last_job + length jobs in
    let own : List OwnJob = checks_back s input in
    let first = parts_before_quiet meaning input (turning (turn_start s)) in
    let rest : TurnState Turning → Result (TurnState Turning) Counter = λ w. and_then (quiet_part input w) publish_part in
    let Goal : TurnState Turning → Type 0 = λ v. HandedOver jobs n (own ++ batch_jobs_due input (before_quiet meaning input s)) (session_in v) in
    subst (λ r. IfOk r Goal) (sym (quiet-split meaning event (turning (turn_start s))))
    (is-then first rest (λ v. HandedOver jobs n own (session_in v)) Goal (before-quiet-over meaning s event)
    (λ t is h. subst (λ (before : Turning). IfOk (rest t) (λ v. HandedOver jobs n (own ++ batch_jobs_due input before) (session_in v)))
    (sym (quiet-is meaning input s t is))
    (let batch : List OwnJob = batch_jobs_due input t.state in
    IfOk-and_then (quiet_part input t) publish_part (λ v. HandedOver jobs n (own ++ batch) (session_in v)) (λ v. HandedOver jobs n (own ++ batch) (session_in v))
    (IfOk-weaker (quiet_part input t) (λ v. HandsOver (session_in t) batch (session_in v)) _ (quiet-over event t)
    (λ v more. hands-on jobs n own batch (session_in t) (session_in v) h more))
    (λ v h. none-is jobs n (own ++ batch) v (publish_part v) h (publish-over v)))))

-- ---- its own work

record Fetches (input : Input) (t u : TurnState Turning) : Type 0 where
  hands : HandsOver (session_in t) (fetch_jobs input t.state.state) (session_in u)
  due : run_jobs u.state.state ≡ run_jobs (fetch_begun input t.state.state)

fetches : (input : Input) (t : TurnState Turning) → IfOk (fetch_part input t) (Fetches input t)
unfolding fetch_part
fetches input t =
    let may : Bool = may_start input t.state.state.client.settings in
    IfOk-within state_in with_state (fetch_started may) t (Fetches input t)
    (IfOk-weaker (fetch_started may (session_in t)) (FetchOver may (session_in t)) _ (fetch-over may (session_in t))
    (λ v f. record { hands = f.hands; due = ap run_jobs f.state ∙ run-jobs-same v.state.desk (fetch_begun input t.state.state) }))

runs : (t : TurnState Turning) → IfOk (build_part t) (λ u. HandsOver (session_in t) (run_jobs t.state.state) (session_in u))
unfolding build_part
runs t = IfOk-within state_in with_state runs_started t (λ u. HandsOver (session_in t) (run_jobs t.state.state) (session_in u)) (runs-over (session_in t))

-- an order that is no job
order-none : (b : Bool) (w : TurnState State) (command : Command) → spawned (command ∷ []) ≡ []
    → spawned (if b then ordered command w else w).out.commands ≡ spawned w.out.commands
unfolding ordered
order-none true w command is = spawned-append w.out.commands (command ∷ []) ∙ ap (λ (js : List Job). spawned w.out.commands ++ js) is ∙ append-nil _
order-none false w command is = refl

order-unless : (b : Bool) (w : TurnState State) (command : Command) → spawned (command ∷ []) ≡ []
    → spawned (if b then w else ordered command w).out.commands ≡ spawned w.out.commands
unfolding ordered
order-unless true w command is = refl
order-unless false w command is = spawned-append w.out.commands (command ∷ []) ∙ ap (λ (js : List Job). spawned w.out.commands ++ js) is ∙ append-nil _

closed-over : (facts : FactsBefore) (w : TurnState State) → IfOk (turn_closed facts w) (λ v. spawned v.out.commands ≡ spawned w.out.commands)
unfolding desk_kept lifted kept_at_desk revised timer_set
closed-over facts w =
    let now : TurnState State = record w { state = with_desk (record w.state.desk { jobs = _ }) w.state } in
    let told : TurnState State = revised facts.revision now in
    order-none (fires told.state.desk.turns told.state.workspaces.fetches.waiting) told (SetTimer told.state.desk.turns) refl
    ∙ order-unless (now.state.files.host.revision == facts.revision) now (Revise now.state.files.host.revision) refl

closing-over : (t : TurnState Turning) → IfOk (closing_part t) (λ v. spawned v.out.commands ≡ spawned t.out.commands)
unfolding closing_part
closing-over t = IfOk-within state_in with_state (turn_closed t.state.facts) t (λ v. spawned v.out.commands ≡ spawned t.out.commands)
    (closed-over t.state.facts (session_in t))

from-over : (jobs : List Job) (n : ℕ) (own : List OwnJob) (input : Input) (t : TurnState Turning) → HandedOver jobs n own (session_in t)
    → IfOk (parts_from_fetch input t) (λ u. spawned u.out.commands ≡ jobs ++ numbered_behind n (own ++ jobs_due input t.state.state))
from-over jobs n own Start t h =
    let first = fetch_jobs Start t.state.state in
    let Goal : TurnState Turning → Type 0 = λ u. spawned u.out.commands ≡ jobs ++ numbered_behind n (own ++ (first ++ [])) in
    IfOk-and_then (fetch_part Start t) closing_part (Fetches Start t) Goal (fetches Start t)
    (λ u f. IfOk-weaker (closing_part u) (λ v. spawned v.out.commands ≡ spawned u.out.commands) Goal (closing-over u)
    (λ v same. same ∙ (hands-on jobs n own first (session_in t) (session_in u) h f.hands).spawns
    ∙ ap (λ (os : List OwnJob). jobs ++ numbered_behind n (own ++ os)) (sym (append-nil first))))
from-over jobs n own (Next event) t h =
    let input : Input = Next event in
    let first = fetch_jobs input t.state.state in
    let later = run_jobs (fetch_begun input t.state.state) in
    let Goal : TurnState Turning → Type 0 = λ u. spawned u.out.commands ≡ jobs ++ numbered_behind n (own ++ (first ++ later)) in
    IfOk-and_then (fetch_part input t) _ (Fetches input t) Goal (fetches input t)
    (λ u f. IfOk-and_then (build_part u) _ (λ v. HandsOver (session_in u) (run_jobs u.state.state) (session_in v)) Goal (runs u)
    (λ v r. let all : HandedOver jobs n ((own ++ first) ++ run_jobs u.state.state) (session_in v) =
    hands-on jobs n (own ++ first) (run_jobs u.state.state) (session_in u) (session_in v) (hands-on jobs n own first (session_in t) (session_in u) h f.hands) r
    in
    none-on jobs n ((own ++ first) ++ run_jobs u.state.state) v (status_part v) closing_part Goal all (status-over v)
    (λ x h. IfOk-weaker (closing_part x) (λ y. spawned y.out.commands ≡ spawned x.out.commands) Goal (closing-over x)
    (λ y same. same ∙ h.spawns ∙ ap (λ (os : List OwnJob). jobs ++ numbered_behind n os) (append_assoc own first (run_jobs u.state.state))
    ∙ ap (λ (os : List OwnJob). jobs ++ numbered_behind n (own ++ (first ++ os))) f.due))))

-- ---- whole turns

step-over : (meaning : Meaning) (s : State) (input : Input) → let asked = (turn_row meaning input (place_of_state s)).jobs in
    IfOk (step meaning input (turn_start s)) (λ w. spawned w.out.commands ≡ asked ++ numbered_behind (s.desk.last_job + length asked) (own_jobs meaning input s))
step-over meaning s input =
    let jobs : List Job = (turn_row meaning input (place_of_state s)).jobs in
    let n : ℕ = s.desk.last_job + length jobs in
    let own : List OwnJob = checks_back s input ++ batch_jobs_due input (before_quiet meaning input s) in
    let before = parts_before_fetch meaning input (turning (turn_start s)) in
    let Goal : TurnState State → Type 0 = λ w. spawned w.out.commands ≡ jobs ++ numbered_behind n (own_jobs meaning input s) in
    subst (λ r. IfOk r Goal) (sym (step-split meaning input s))
    (IfOk-and_then (and_then before (parts_from_fetch input)) turned (λ u. Goal (session_in u)) Goal
    (is-then before (parts_from_fetch input) (λ t. HandedOver jobs n own (session_in t)) (λ u. Goal (session_in u)) (before-over meaning s input)
    (λ t is h. subst (λ (o : State). IfOk (parts_from_fetch input t) (λ u. spawned u.out.commands ≡ jobs ++ numbered_behind n (own ++ jobs_due input o)))
    (sym (before-is meaning input s t is))
    (from-over jobs n own input t h))) (λ u g. g))

pub turns-over : (meaning : Meaning) (old : State) (turn : Turn) (new : State) → Steps meaning old turn new → let asked =
    (turn_row meaning turn.input (place_of_state old)).jobs in
    spawned turn.commands ≡ asked ++ numbered_behind (old.desk.last_job + length asked) (own_jobs meaning turn.input old)
turns-over meaning old turn new steps =
    let asked : List Job = (turn_row meaning turn.input (place_of_state old)).jobs in
    IfOk-at_ok (λ w. spawned w.out.commands ≡ asked ++ numbered_behind (old.desk.last_job + length asked) (own_jobs meaning turn.input old)) steps
    (step-over meaning old turn.input)
