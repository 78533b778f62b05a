-- A step of the desk is its row of the reply table.
use Rattle.std.proofs.Common.{◌≡◌, ℕ, List, ◌++◌, Bool, true, false, refl, sym, ap, ◌∙◌, subst, arith, append-nil, append_assoc}
use Rattle.std.proofs.lemmas.List.{length-append}
use Rattle.std.specs.Option.{option_map}
use Rattle.std.specs.Prelude.{Ok, IfOk, Option, None, Some, option_and_then, ◌&&◌, not, ltb, if◌then◌else◌}
use Rattle.std.specs.FinMap as map
use Rattle.serde_json.specs.Data.{Data, null}
use Rattle.lsp_frame.specs.Pending.{Pending, id_of, is_pending}
use Rattle.lsp_frame.specs.declared.message.Message.{Message}
use Rattle.lsp_frame.specs.declared.message.Request.{Request}
use Rattle.lsp_frame.specs.declared.message.RequestId.{RequestId}
use Rattle.lsp_frame.specs.declared.message.Response.{Response}
use Rattle.lsp_frame.proofs.InStep.{id_of-registered}
use Rattle.analysis_host.specs.Answers.{OutcomeSpec, answer, fault}
use Rattle.analysis_host.specs.declared.ask.Answer.TheVariants.{Json as JsonAnswer, Diagnostics as DiagnosticsAnswer, Tests as TestsAnswer}
use Rattle.analysis_host.specs.declared.ask.Answer.TheVariants.{Roots as RootsAnswer, Primed as PrimedAnswer}
use Rattle.method_table.specs.Plans.{plan, is_shutdown}
use Rattle.method_table.specs.Rows.{row_of, class_of, retries, default_of}
use Rattle.method_table.specs.declared.class.Class.{Class}
use Rattle.method_table.specs.declared.class.Class.TheVariants as classes
use Rattle.method_table.specs.declared.class.PoolClass.{PoolClass}
use Rattle.method_table.specs.declared.planned.Plan.{Plan}
use Rattle.method_table.specs.declared.planned.Plan.TheVariants as plans
use Rattle.method_table.specs.declared.row_id.RowId.{RowId}
use Rattle.method_table.specs.StateRequests.{request_of}
use Rattle.method_table.specs.Unit.{is_unit}
use Rattle.method_table.specs.declared.request.StateRequest.{StateRequest}
use Rattle.dispatch.specs.Responses.{response_with}
use Rattle.session_port.specs.Jobs.{Jobs, final_of, fitting_job, jobs_after}
use Rattle.session_port.specs.Kinds.{AskedFor, asked_for, ticket_of_job}
use Rattle.session_port.proofs.Facts.{same-ticket, ticket_in}
use Rattle.session_port.specs.Record.{spawned}
use Rattle.session_port.specs.declared.command.Command.TheVariants.{Defer}
use Rattle.session_port.specs.declared.command.DeferredTask.{DeferredTask}
use Rattle.session_port.specs.declared.command.LogCode.{LogCode}
use Rattle.session_port.specs.declared.command.LogCode.TheVariants.{UnknownRequest}
use Rattle.session_port.specs.declared.event.TaskMsg.{TaskMsg}
use Rattle.session_port.specs.declared.job.Job.{Job}
use Rattle.session_port.specs.declared.job.JobKind.{JobKind}
use Rattle.session_port.specs.declared.job.JobResult.{JobResult}
use Rattle.session_port.specs.declared.job.JobResult.TheVariants.{Value, Fault, Cancelled, NoMemory}
use Rattle.session_port.specs.declared.job.JobValue.TheVariants.{Json, Diagnostics, Tests, Roots, Primed, Workspaces, BuildData, ProcMacros}
use Rattle.session_port.specs.TurnState.{TurnState, logged, ordered, replied}
use Rattle.session_port.specs.Written.{responses_in}
use Rattle.session_port.specs.declared.fault.Counter.{Counter}
use Rattle.desk.specs.Desk.{Desk, waiting_for}
use Rattle.desk.specs.Folds.{closed_by, closed_with, shutdown_after}
use Rattle.desk.specs.Meaning.{Meaning, can_read}
use Rattle.desk.specs.Reactions.{Reaction, responses_of, silent, says, reactions_joined, hands_over, if_read, state_row, planned_row, class_row, method_row}
use Rattle.desk.specs.Reactions.{shutdown_row}
use Rattle.desk.specs.Reactions.{new_row, request_row, cancel_row, stopped_for_row, outdated_row, result_row, ticket_row, final_row, fitting_row, message_row}
use Rattle.desk.specs.Replies.{already_pending, invalid_params, unknown_request, shut_already, canceled_by_client, outdated_reply, finding_reply, finished_reply}
use Rattle.desk.specs.Steps.{request_answered, answered_if, responded, noted, dispatched, echoed, queried, submitted, stated, planned, classed, unknown, asked}
use Rattle.desk.specs.Steps.{shut_down, request_admitted, requested, cancelled, outdated, outdated_for, settled, delivered, brought, job_ended, result_taken}
use Rattle.desk.specs.Scene.{Scene}
use Rattle.desk_laws.specs.Settled.{Settled}
use Rattle.desk_laws.proofs.Appends.{closed_by-append, responses-append, passed-append, spawned-append, asked-append}
use Rattle.desk_laws.proofs.Fitting.{after_message-going, after_message-none, after_message-some}
use Rattle.desk_laws.proofs.Results.{IfOk-next, IfOk-weaker}

pub nothing-settles : (w : TurnState Desk) → Settled None w w silent w.state.jobs
nothing-settles w = record {
  written = sym (append-nil _);
  spawns = sym (append-nil _);
  asked = refl;
  others = λ number_of passes. refl;
  turns = refl;
  pending = refl;
  out = refl;
  last_job = omega arith;
  shutdown = refl;
}

-- the responses that were written are the row's
pub settled-responses : (request : Option Request) (w v : TurnState Desk) (done : Reaction) (jobs : Jobs) → Settled request w v done jobs
    → responses_in v.out.messages ≡ responses_in w.out.messages ++ responses_of done
settled-responses request w v done jobs a = ap responses_in a.written ∙ responses-append w.out.messages done.messages

-- one thing was done, and then another
pub settled-on : (w v u : TurnState Desk) (a b : Reaction) (js ks : Jobs) → Settled None w v a js → Settled None v u b ks
    → Settled None w u (reactions_joined a b) ks
settled-on w v u a b js ks p q = record {
  written = q.written ∙ ap (λ (ms : List Message). ms ++ b.messages) p.written ∙ append_assoc w.out.messages a.messages b.messages;
  spawns = q.spawns ∙ ap (λ (xs : List Job). xs ++ b.jobs) p.spawns ∙ append_assoc (spawned w.out.commands) a.jobs b.jobs;
  asked = asked-append a.jobs b.jobs ∙ (λ i. p.asked i ++ q.asked i);
  others = λ number_of passes. q.others number_of passes ∙ p.others number_of passes;
  turns = q.turns ∙ p.turns;
  pending = q.pending ∙ ap (closed_by (responses_of b)) p.pending ∙ sym (closed_by-append (responses_of a) (responses_of b) w.state.pending)
      ∙ ap (λ rs. closed_by rs w.state.pending) (sym (responses-append a.messages b.messages));
  out = q.out;
  last_job = omega (arith, q.last_job, p.last_job, length-append a.jobs b.jobs);
  shutdown = q.shutdown ∙ p.shutdown;
}

some-same : {X : Type 0} (x y : X) → Some x ≡ Some y → x ≡ y
some-same x y e = cc

-- a reply is to the request of its id
pub finding-id : (id : RequestId) (finding : OutcomeSpec) → (finding_reply id finding).id ≡ Some id
finding-id id (answer (JsonAnswer value)) = refl
finding-id id (answer (DiagnosticsAnswer list)) = refl
finding-id id (answer (TestsAnswer tests)) = refl
finding-id id (answer (RootsAnswer paths)) = refl
finding-id id (answer PrimedAnswer) = refl
finding-id id (fault code message) = refl

pub finished-id : (id : RequestId) (result : JobResult) (response : Response) → finished_reply id result ≡ Some response → response.id ≡ Some id
finished-id id (Value (Json value)) response is = sym (ap (λ (r : Response). r.id) (some-same _ response is))
finished-id id (Value (Diagnostics lists)) response is = sym (ap (λ (r : Response). r.id) (some-same _ response is))
finished-id id (Value (Tests tests)) response is = sym (ap (λ (r : Response). r.id) (some-same _ response is))
finished-id id (Value (Roots paths)) response is = sym (ap (λ (r : Response). r.id) (some-same _ response is))
finished-id id (Value Primed) response is = sym (ap (λ (r : Response). r.id) (some-same _ response is))
finished-id id (Value (Workspaces results)) response is = sym (ap (λ (r : Response). r.id) (some-same _ response is))
finished-id id (Value (BuildData results)) response is = sym (ap (λ (r : Response). r.id) (some-same _ response is))
finished-id id (Value (ProcMacros macros)) response is = sym (ap (λ (r : Response). r.id) (some-same _ response is))
finished-id id (Fault code message) response is = sym (ap (λ (r : Response). r.id) (some-same _ response is))
finished-id id (Cancelled saw) response is = absurd cc
finished-id id NoMemory response is = sym (ap (λ (r : Response). r.id) (some-same _ response is))

-- a pending request is answered
pub answer-settles : (id : RequestId) (response : Response) (w : TurnState Desk) → response.id ≡ Some id
    → Settled None w (request_answered id response w) (says response) w.state.jobs
unfolding request_answered replied
answer-settles id response w is = record {
  written = refl;
  spawns = sym (append-nil _);
  asked = refl;
  others = λ number_of passes. refl;
  turns = refl;
  pending = ap (λ o. closed_with o w.state.pending) (sym is);
  out = refl;
  last_job = omega arith;
  shutdown = refl;
}

-- a task that is put off
pub defer-settles : (task : DeferredTask) (w : TurnState Desk) → Settled None w (ordered (Defer task) w) silent w.state.jobs
unfolding ordered
defer-settles task w = record {
  written = sym (append-nil _);
  spawns = spawned-append w.out.commands _;
  asked = refl;
  others = λ number_of passes. passed-append number_of w.out.commands _ (passes.defers task);
  turns = refl;
  pending = refl;
  out = refl;
  last_job = omega arith;
  shutdown = refl;
}

pub log-settles : (code : LogCode) (text : List ℕ) (w : TurnState Desk) → Settled None w (logged code text w) silent w.state.jobs
unfolding logged ordered
log-settles code text w = record {
  written = sym (append-nil _);
  spawns = spawned-append w.out.commands _;
  asked = refl;
  others = λ number_of passes. passed-append number_of w.out.commands _ (passes.logs code text);
  turns = refl;
  pending = refl;
  out = refl;
  last_job = omega arith;
  shutdown = refl;
}

-- the request of a ticket is answered
responded-is : (ticket : ℕ) (id : RequestId) (reply : RequestId → Response) (w : TurnState Desk) → id_of ticket w.state.pending ≡ Some id
    → responded ticket reply w ≡ request_answered id (reply id) w
unfolding responded answered_if
responded-is ticket id reply w waits = ap (λ o. answered_if o reply w) waits

respond-settles : (ticket : ℕ) (id : RequestId) (reply : RequestId → Response) (w : TurnState Desk) → id_of ticket w.state.pending ≡ Some id
    → (reply id).id ≡ Some id
    → Settled None w (responded ticket reply w) (says (reply id)) w.state.jobs
respond-settles ticket id reply w waits is =
    subst (λ v. Settled None w v (says (reply id)) w.state.jobs) (sym (responded-is ticket id reply w waits)) (answer-settles id (reply id) w is)

-- a request of an unknown method is answered and logged
unknown-settles : (ticket : ℕ) (id : RequestId) (method : List ℕ) (w : TurnState Desk) → id_of ticket w.state.pending ≡ Some id
    → Settled None w (unknown ticket method w) (says (unknown_request id)) w.state.jobs
unfolding unknown
unknown-settles ticket id method w waits =
    let v = responded ticket unknown_request w in
    let a : Settled None w v (says (unknown_request id)) w.state.jobs = respond-settles ticket id unknown_request w waits refl in
    settled-on w v (logged UnknownRequest method v) (says (unknown_request id)) silent w.state.jobs w.state.jobs a
    (subst (λ js. Settled None v (logged UnknownRequest method v) silent js) a.out (log-settles UnknownRequest method v))

dispatch-settles : (scene : Scene) (class : PoolClass) (ticket : ℕ) (row : RowId) (params : Data) (w : TurnState Desk)
    → IfOk (dispatched scene class ticket row params w) (λ v. Settled None w v (hands_over w.state.last_job scene.snapshot class ticket row params) w.state.jobs)
unfolding dispatched ordered
dispatch-settles scene class ticket row params w =
    let done = hands_over w.state.last_job scene.snapshot class ticket row params in
    IfOk-next w.state.last_job _ _ (λ v. Settled None w v done w.state.jobs) (record {
      written = sym (append-nil _);
      spawns = spawned-append w.out.commands _;
      asked = refl;
      others = λ number_of passes. passed-append number_of w.out.commands _ (passes.jobs _);
      turns = refl;
      pending = refl;
      out = refl;
      last_job = refl;
      shutdown = refl;
    })

-- a request is answered where its params can be read, and refused else
read-settles : (reads : Bool) (ticket : ℕ) (id : RequestId) (reply : RequestId → Response) (w : TurnState Desk) → id_of ticket w.state.pending ≡ Some id
    → (reply id).id ≡ Some id
    → Settled None w (if reads then responded ticket reply w else responded ticket invalid_params w) (if_read reads id (says (reply id))) w.state.jobs
read-settles true ticket id reply w waits is = respond-settles ticket id reply w waits is
read-settles false ticket id reply w waits is = respond-settles ticket id invalid_params w waits refl

state-settles : (ticket : ℕ) (id : RequestId) (o : Option StateRequest) (w : TurnState Desk) → id_of ticket w.state.pending ≡ Some id
    → Settled None w (stated ticket o w) (state_row id o) w.state.jobs
unfolding stated
state-settles ticket id None w waits = respond-settles ticket id invalid_params w waits refl
state-settles ticket id (Some request) w waits = respond-settles ticket id (λ i. response_with i null) w waits refl

submit-settles : (scene : Scene) (reads : Bool) (class : PoolClass) (ticket : ℕ) (id : RequestId) (row : RowId) (params : Data) (w : TurnState Desk)
    → id_of ticket w.state.pending ≡ Some id
    → IfOk (submitted scene reads class ticket row params w)
    (λ v. Settled None w v (if_read reads id (hands_over w.state.last_job scene.snapshot class ticket row params)) w.state.jobs)
unfolding submitted
submit-settles scene true class ticket id row params w waits = dispatch-settles scene class ticket row params w
submit-settles scene false class ticket id row params w waits = respond-settles ticket id invalid_params w waits refl

plan-settles : (meaning : Meaning) (scene : Scene) (p : Plan) (ticket : ℕ) (id : RequestId) (row : RowId) (params : Data) (w : TurnState Desk)
    → id_of ticket w.state.pending ≡ Some id
    → IfOk (planned meaning scene p ticket row params w) (λ v. Settled None w v (planned_row meaning scene w.state.last_job p ticket id row params) w.state.jobs)
unfolding planned echoed queried
plan-settles meaning scene plans.Shutdown ticket id row params w waits = state-settles ticket id (request_of row params) w waits
plan-settles meaning scene plans.Refuse ticket id row params w waits = respond-settles ticket id shut_already w waits refl
plan-settles meaning scene plans.Unknown ticket id row params w waits = respond-settles ticket id unknown_request w waits refl
plan-settles meaning scene plans.Default ticket id row params w waits = respond-settles ticket id (λ i. response_with i (default_of row)) w waits refl
plan-settles meaning scene plans.Identity ticket id row params w waits = read-settles (can_read meaning row params) ticket id (λ i. response_with i params) w
    waits refl
plan-settles meaning scene plans.State ticket id row params w waits = state-settles ticket id (request_of row params) w waits
plan-settles meaning scene plans.OnLoop ticket id row params w waits = read-settles (can_read meaning row params) ticket id _ w waits (finding-id id _)
plan-settles meaning scene (plans.Job class) ticket id row params w waits =
    submit-settles scene (can_read meaning row params) class ticket id row params w waits

-- a request of a row, under its ticket
pub class-settles : (meaning : Meaning) (scene : Scene) (ticket : ℕ) (id : RequestId) (row : RowId) (params : Data) (w : TurnState Desk)
    → id_of ticket w.state.pending ≡ Some id
    → IfOk (classed meaning scene ticket row params w) (λ v. Settled None w v (class_row meaning scene w.state ticket id row params) w.state.jobs)
unfolding classed
class-settles meaning scene ticket id row params w waits = plan-settles meaning scene (plan (Some row) scene.loading scene.incomplete w.state.shutdown) ticket
    id row params w waits

-- ---- requests

-- a request was noted, and then this was done for it: it was done for a request that was read
abbrev Reads : Request → TurnState Desk → Reaction → TurnState Desk → Type 0
Reads r w done v = Settled (Some r) w v done w.state.jobs

read-on : (r : Request) (w v : TurnState Desk) (done : Reaction) → is_pending r.id w.state.pending ≡ false
    → shutdown_after (Some r) (responses_of done) w.state.shutdown ≡ w.state.shutdown
    → Settled None (noted r.id w) v done w.state.jobs → Reads r w done v
unfolding noted
read-on r w v done new stays a = record {
  written = a.written;
  spawns = a.spawns;
  asked = a.asked;
  others = a.others;
  turns = a.turns;
  pending = a.pending ∙ sym (rw new refl);
  out = a.out;
  last_job = a.last_job;
  shutdown = a.shutdown ∙ sym stays;
}

-- the same of a method that isn't shutdown
other-on : (r : Request) (w v : TurnState Desk) (done : Reaction) → is_pending r.id w.state.pending ≡ false → is_shutdown (row_of r.method) ≡ false
    → Settled None (noted r.id w) v done w.state.jobs → Reads r w done v
other-on r w v done new other a = read-on r w v done new (rw other refl) a

-- it waits under the turn's number
noted-waits : (id : RequestId) (w : TurnState Desk) → id_of w.state.turns (noted id w).state.pending ≡ Some id
unfolding noted
noted-waits id w = id_of-registered w.state.turns id w.state.pending

-- a request of a method that has no row
unknown-cases : (r : Request) (w : TurnState Desk) (b : Bool) → id_of w.state.turns w.state.pending ≡ Some r.id
    → IfOk {E = Counter} (if b then Ok (responded w.state.turns shut_already w) else Ok (unknown w.state.turns r.method w))
    (λ v. Settled None w v (if b then says (shut_already r.id) else says (unknown_request r.id)) w.state.jobs)
unknown-cases r w true waits = respond-settles w.state.turns r.id shut_already w waits refl
unknown-cases r w false waits = unknown-settles w.state.turns r.id r.method w waits

method-settles : (meaning : Meaning) (scene : Scene) (r : Request) (o : Option RowId) (w : TurnState Desk) → id_of w.state.turns w.state.pending ≡ Some r.id
    → IfOk (asked meaning scene o r.method r.params w) (λ v. Settled None w v (method_row meaning scene w.state w.state.turns o r) w.state.jobs)
unfolding asked
method-settles meaning scene r None w waits = unknown-cases r w w.state.shutdown waits
method-settles meaning scene r (Some row) w waits = class-settles meaning scene w.state.turns r.id row r.params w waits

-- shutdown is requested
shutdown-cases : (r : Request) (w : TurnState Desk) (b : Bool) → is_pending r.id w.state.pending ≡ false → is_shutdown (row_of r.method) ≡ true
    → Reads r w (if b then says (response_with r.id null) else says (invalid_params r.id))
    (if b then responded w.state.turns (λ id. response_with id null) (record (noted r.id w) { state = record (noted r.id w).state { shutdown = true } })
    else responded w.state.turns invalid_params (noted r.id w))
unfolding noted
shutdown-cases r w true new named =
    let v : TurnState Desk = record (noted r.id w) { state = record (noted r.id w).state { shutdown = true } } in
    let a : Settled None v (responded w.state.turns (λ id. response_with id null) v) (says (response_with r.id null)) w.state.jobs =
    respond-settles w.state.turns r.id (λ id. response_with id null) v (id_of-registered w.state.turns r.id w.state.pending) refl in
    record {
      written = a.written;
      spawns = a.spawns;
      asked = a.asked;
      others = a.others;
      turns = a.turns;
      pending = a.pending ∙ sym (rw new refl);
      out = a.out;
      last_job = a.last_job;
      shutdown = a.shutdown ∙ sym (rw named refl);
    }
shutdown-cases r w false new named =
    read-on r w _ (says (invalid_params r.id)) new (rw named refl)
    (respond-settles w.state.turns r.id invalid_params (noted r.id w) (id_of-registered w.state.turns r.id w.state.pending) refl)

admit-cases : (meaning : Meaning) (scene : Scene) (r : Request) (w : TurnState Desk) (b : Bool) → is_pending r.id w.state.pending ≡ false
    → is_shutdown (row_of r.method) ≡ b
    → IfOk (if b then Ok (shut_down r.params (noted r.id w)) else asked meaning scene (row_of r.method) r.method r.params (noted r.id w))
    (λ v. Reads r w (if b then shutdown_row r.id r.params else method_row meaning scene w.state w.state.turns (row_of r.method) r) v)
unfolding shut_down noted
admit-cases meaning scene r w true new named = shutdown-cases r w (is_unit r.params) new named
admit-cases meaning scene r w false new other =
    let done = method_row meaning scene w.state w.state.turns (row_of r.method) r in
    IfOk-weaker _ (λ v. Settled None (noted r.id w) v done w.state.jobs) (λ v. Reads r w done v)
    (method-noted meaning scene r (row_of r.method) w)
    (λ v a. other-on r w v done new other a)
  where
    method-noted : (meaning : Meaning) (scene : Scene) (r : Request) (o : Option RowId) (w : TurnState Desk)
        → IfOk (asked meaning scene o r.method r.params (noted r.id w))
        (λ v. Settled None (noted r.id w) v (method_row meaning scene w.state w.state.turns o r) w.state.jobs)
    method-noted meaning scene r None w = method-settles meaning scene r None (noted r.id w) (id_of-registered w.state.turns r.id w.state.pending)
    method-noted meaning scene r (Some row) w = method-settles meaning scene r (Some row) (noted r.id w) (id_of-registered w.state.turns r.id w.state.pending)

-- the id is pending: nothing is registered
refused-reads : (r : Request) (w : TurnState Desk) → is_pending r.id w.state.pending ≡ true
    → Reads r w (says (already_pending r.id)) (replied (already_pending r.id) w)
unfolding replied
refused-reads r w is = record {
  written = refl;
  spawns = sym (append-nil _);
  asked = refl;
  others = λ number_of passes. refl;
  turns = refl;
  pending = sym (rw is refl);
  out = refl;
  last_job = omega arith;
  shutdown = sym (no-null (is_shutdown (row_of r.method)));
}
  where
    no-null : (b : Bool) → (if b && false then true else w.state.shutdown) ≡ w.state.shutdown
    no-null true = refl
    no-null false = refl

request-cases : (meaning : Meaning) (scene : Scene) (r : Request) (w : TurnState Desk) (b : Bool) → is_pending r.id w.state.pending ≡ b
    → IfOk (if b then Ok (replied (already_pending r.id) w) else request_admitted meaning scene r.method r.params (noted r.id w))
    (λ v. Reads r w (if b then says (already_pending r.id) else new_row meaning scene w.state w.state.turns r) v)
unfolding request_admitted
request-cases meaning scene r w true is = refused-reads r w is
request-cases meaning scene r w false is = admit-cases meaning scene r w (is_shutdown (row_of r.method)) is refl

-- a request that is read
pub request-settles : (meaning : Meaning) (scene : Scene) (r : Request) (w : TurnState Desk)
    → IfOk (requested meaning scene r w) (λ v. Settled (Some r) w v (request_row meaning scene w.state w.state.turns r) w.state.jobs)
unfolding requested
request-settles meaning scene r w = request-cases meaning scene r w (is_pending r.id w.state.pending) refl

cancel-cases : (id : RequestId) (w : TurnState Desk) (b : Bool) → Settled None w (if b then request_answered id (canceled_by_client id) w else w)
    (if b then says (canceled_by_client id) else silent) w.state.jobs
cancel-cases id w true = answer-settles id (canceled_by_client id) w refl
cancel-cases id w false = nothing-settles w

-- a request that is cancelled
pub cancel-settles : (id : RequestId) (w : TurnState Desk) → Settled None w (cancelled id w) (cancel_row id w.state) w.state.jobs
unfolding cancelled
cancel-settles id w = cancel-cases id w (is_pending id w.state.pending)

-- ---- results

pub outdated-id : (class : Class) (id : RequestId) → (outdated_reply class id).id ≡ Some id
outdated-id classes.State id = refl
outdated-id classes.OnLoop id = refl
outdated-id classes.Formatting id = refl
outdated-id classes.Latency id = refl
outdated-id classes.DocumentDiagnostic id = refl
outdated-id classes.Worker id = refl
outdated-id classes.Identity id = refl

stop-cases : (meaning : Meaning) (scene : Scene) (ticket : ℕ) (id : RequestId) (row : RowId) (params : Data) (w : TurnState Desk) (b : Bool)
    → id_of ticket w.state.pending ≡ Some id
    → IfOk (if b then Ok (responded ticket (outdated_reply (class_of row)) w) else classed meaning scene ticket row params w)
    (λ v. Settled None w v (if b then says (outdated_reply (class_of row) id) else class_row meaning scene w.state ticket id row params) w.state.jobs)
stop-cases meaning scene ticket id row params w true waits = respond-settles ticket id (outdated_reply (class_of row)) w waits (outdated-id (class_of row) id)
stop-cases meaning scene ticket id row params w false waits = class-settles meaning scene ticket id row params w waits

abbrev IsFor : JobKind → Pending → Option RequestId → Type 0
IsFor kind pending request = option_and_then (λ ticket. id_of ticket pending) (ticket_of_job kind) ≡ request

stop-asked : (meaning : Meaning) (scene : Scene) (id : RequestId) (revision : ℕ) (o : Option AskedFor) (w : TurnState Desk)
    → option_and_then (λ ticket. id_of ticket w.state.pending) (option_map ticket_in o) ≡ Some id
    → IfOk (outdated_for meaning scene revision o w) (λ v. Settled None w v (stopped_for_row meaning scene w.state id revision o) w.state.jobs)
unfolding outdated_for
stop-asked meaning scene id revision None w waits = nothing-settles w
stop-asked meaning scene id revision (Some r) w waits =
    stop-cases meaning scene r.ticket id r.row r.params w (ltb revision scene.snapshot.revision && not (retries r.row)) waits

stop-settles : (meaning : Meaning) (scene : Scene) (id : RequestId) (revision : ℕ) (kind : JobKind) (w : TurnState Desk) → IsFor kind w.state.pending (Some id)
    → IfOk (outdated meaning scene revision kind w) (λ v. Settled None w v (outdated_row meaning scene w.state id revision kind) w.state.jobs)
stop-settles meaning scene id revision kind w waits =
    stop-asked meaning scene id revision (asked_for kind) w (ap (option_and_then (λ ticket. id_of ticket w.state.pending)) (sym (same-ticket kind)) ∙ waits)

result-settles : (meaning : Meaning) (scene : Scene) (id : RequestId) (job : Job) (result : JobResult) (o : Option Response) (w : TurnState Desk)
    → finished_reply id result ≡ o → waiting_for job w.state ≡ Some id
    → IfOk (settled meaning scene o id job w) (λ v. Settled None w v (result_row meaning scene w.state o id job) w.state.jobs)
unfolding settled
result-settles meaning scene id job result (Some response) w is waits = answer-settles id response w (finished-id id result response is)
result-settles meaning scene id job result None w is waits = stop-settles meaning scene id job.snapshot.revision job.kind w waits

ticket-settles : (meaning : Meaning) (scene : Scene) (request : Option RequestId) (job : Job) (result : JobResult) (w : TurnState Desk)
    → waiting_for job w.state ≡ request
    → IfOk (delivered meaning scene request job result w) (λ v. Settled None w v (ticket_row meaning scene w.state request job result) w.state.jobs)
unfolding delivered
ticket-settles meaning scene None job result w waits = nothing-settles w
ticket-settles meaning scene (Some id) job result w waits = result-settles meaning scene id job result (finished_reply id result) w refl waits

abbrev pub without : ℕ → TurnState Desk → TurnState Desk
without number w = record w { state = record w.state { jobs = map.remove w.state.jobs number } }

-- a row doesn't ask which jobs are out, once its own is found
pub row-without : (meaning : Meaning) (scene : Scene) (desk : Desk) (jobs : Jobs) (final : Option JobResult) (job : Job)
    → final_row meaning scene (record desk { jobs = jobs }) final job ≡ final_row meaning scene desk final job
row-without meaning scene desk jobs None job = refl
row-without meaning scene desk jobs (Some result) job = by_request (waiting_for job desk)
  where
    by_asked : (id : RequestId) (revision : ℕ) (o : Option AskedFor) → stopped_for_row meaning scene (record desk { jobs = jobs }) id revision o
        ≡ stopped_for_row meaning scene desk id revision o
    by_asked id revision None = refl
    by_asked id revision (Some r) = refl

    by_reply : (o : Option Response) (id : RequestId) → result_row meaning scene (record desk { jobs = jobs }) o id job ≡ result_row meaning scene desk o id job
    by_reply (Some response) id = refl
    by_reply None id = by_asked id job.snapshot.revision (asked_for job.kind)

    by_request : (o : Option RequestId) → ticket_row meaning scene (record desk { jobs = jobs }) o job result ≡ ticket_row meaning scene desk o job result
    by_request None = refl
    by_request (Some id) = by_reply (finished_reply id result) id

-- what was done after a job was taken off was done
settled-from : (w v : TurnState Desk) (number : ℕ) (done : Reaction) (jobs : Jobs) → Settled None (without number w) v done jobs → Settled None w v done jobs
settled-from w v number done jobs a = record {
  written = a.written;
  spawns = a.spawns;
  asked = a.asked;
  others = a.others;
  turns = a.turns;
  pending = a.pending;
  out = a.out;
  last_job = a.last_job;
  shutdown = a.shutdown;
}

-- what a message does that fits this job: it goes on, or it has ended so
final-settles : (meaning : Meaning) (scene : Scene) (final : Option JobResult) (job : Job) (message : TaskMsg) (w : TurnState Desk)
    → final_of message.body ≡ final → fitting_job message w.state.jobs ≡ Some job
    → IfOk (brought meaning scene final job message.job w) (λ v. Settled None w v (final_row meaning scene w.state final job) (jobs_after message w.state.jobs))
unfolding brought
final-settles meaning scene None job message w goes is =
    subst (Settled None w w silent) (sym (after_message-going message w.state.jobs goes)) (nothing-settles w)
final-settles meaning scene (Some result) job message w ends is =
    let done = final_row meaning scene w.state (Some result) job in
    let fewer = map.remove w.state.jobs message.job in
    IfOk-weaker _ (λ v. Settled None (without message.job w) v (final_row meaning scene (without message.job w).state (Some result) job) fewer)
    (λ v. Settled None w v done (jobs_after message w.state.jobs))
    (ticket-settles meaning scene (waiting_for job w.state) job result (without message.job w) refl)
    (λ v a. subst (Settled None w v done) (sym (after_message-some message w.state.jobs job result ends is).0)
    (subst (λ d. Settled None w v d fewer) (row-without meaning scene w.state fewer (Some result) job) (settled-from w v message.job _ fewer a)))

job-settles : (meaning : Meaning) (scene : Scene) (job : Option Job) (message : TaskMsg) (w : TurnState Desk) → fitting_job message w.state.jobs ≡ job
    → IfOk (job_ended meaning scene job message w) (λ v. Settled None w v (fitting_row meaning scene w.state job message) (jobs_after message w.state.jobs))
unfolding job_ended
job-settles meaning scene None message w is =
    subst (Settled None w (logged _ _ w) silent) (sym (after_message-none message w.state.jobs is)) (log-settles _ _ w)
job-settles meaning scene (Some job) message w is = final-settles meaning scene (final_of message.body) job message w refl is

-- a message of a job
pub message-settles : (meaning : Meaning) (scene : Scene) (message : TaskMsg) (w : TurnState Desk)
    → IfOk (result_taken meaning scene message w) (λ v. Settled None w v (message_row meaning scene w.state message) (jobs_after message w.state.jobs))
message-settles meaning scene message w = job-settles meaning scene (fitting_job message w.state.jobs) message w refl

-- ---- no row asks how many turns were counted

request-turns-method : (meaning : Meaning) (scene : Scene) (desk : Desk) (turns ticket : ℕ) (o : Option RowId) (r : Request)
    → method_row meaning scene (record desk { turns = turns }) ticket o r ≡ method_row meaning scene desk ticket o r
request-turns-method meaning scene desk turns ticket None r = refl
request-turns-method meaning scene desk turns ticket (Some row) r = refl

pub request-turns : (meaning : Meaning) (scene : Scene) (desk : Desk) (turns ticket : ℕ) (r : Request)
    → request_row meaning scene (record desk { turns = turns }) ticket r ≡ request_row meaning scene desk ticket r
request-turns meaning scene desk turns ticket r =
    ap (λ done. if is_pending r.id desk.pending then says (already_pending r.id) else if is_shutdown (row_of r.method) then shutdown_row r.id r.params
    else done)
    (request-turns-method meaning scene desk turns ticket (row_of r.method) r)

pub message-turns : (meaning : Meaning) (scene : Scene) (desk : Desk) (turns : ℕ) (message : TaskMsg)
    → message_row meaning scene (record desk { turns = turns }) message ≡ message_row meaning scene desk message
message-turns meaning scene desk turns message = by_job (fitting_job message desk.jobs)
  where
    by_asked : (id : RequestId) (revision : ℕ) (o : Option AskedFor) → stopped_for_row meaning scene (record desk { turns = turns }) id revision o
        ≡ stopped_for_row meaning scene desk id revision o
    by_asked id revision None = refl
    by_asked id revision (Some r) = refl

    by_reply : (o : Option Response) (id : RequestId) (job : Job) → result_row meaning scene (record desk { turns = turns }) o id job ≡ result_row meaning scene
        desk o id job
    by_reply (Some response) id job = refl
    by_reply None id job = by_asked id job.snapshot.revision (asked_for job.kind)

    by_request : (o : Option RequestId) (job : Job) (result : JobResult) → ticket_row meaning scene (record desk { turns = turns }) o job result ≡ ticket_row
        meaning scene desk o job result
    by_request None job result = refl
    by_request (Some id) job result = by_reply (finished_reply id result) id job

    by_final : (o : Option JobResult) (job : Job) → final_row meaning scene (record desk { turns = turns }) o job ≡ final_row meaning scene desk o job
    by_final None job = refl
    by_final (Some result) job = by_request (waiting_for job desk) job result

    by_job : (o : Option Job) → fitting_row meaning scene (record desk { turns = turns }) o message ≡ fitting_row meaning scene desk o message
    by_job None = refl
    by_job (Some job) = by_final (final_of message.body) job
