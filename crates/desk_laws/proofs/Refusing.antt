-- A step of the desk is refused only where it hands over more jobs than there are numbers.
use Rattle.std.proofs.Common.{◌≡◌, ℕ, ◌+◌, ◌-◌, ◌^◌, ◌≤◌, length, Bool, true, false, refl, subst, arith}
use Rattle.std.proofs.lemmas.Bool.{ltb-false}
use Rattle.std.specs.Prelude.{Result, Ok, Err, IfErr, Option, None, Some, ◌&&◌, not, if◌then◌else◌, ltb}
use Rattle.std.specs.FinMap as map
use Rattle.serde_json.specs.Data.{Data}
use Rattle.lsp_frame.specs.Pending.{is_pending}
use Rattle.lsp_frame.specs.declared.message.Request.{Request}
use Rattle.lsp_frame.specs.declared.message.RequestId.{RequestId}
use Rattle.lsp_frame.specs.declared.message.Response.{Response}
use Rattle.method_table.specs.Plans.{plan, is_shutdown}
use Rattle.method_table.specs.Rows.{row_of, class_of, retries}
use Rattle.method_table.specs.declared.class.PoolClass.{PoolClass}
use Rattle.method_table.specs.declared.planned.Plan.{Plan}
use Rattle.method_table.specs.declared.planned.Plan.TheVariants as plans
use Rattle.method_table.specs.declared.row_id.RowId.{RowId}
use Rattle.session_port.specs.Jobs.{final_of, fitting_job}
use Rattle.session_port.specs.Kinds.{AskedFor, asked_for}
use Rattle.session_port.specs.declared.event.TaskMsg.{TaskMsg}
use Rattle.session_port.specs.declared.job.Job.{Job}
use Rattle.session_port.specs.declared.job.JobResult.{JobResult}
use Rattle.session_port.specs.TurnState.{TurnState, and_then, next_number}
use Rattle.session_port.specs.declared.fault.Counter.{Counter}
use Rattle.session_port.specs.declared.fault.Counter.TheVariants.{Jobs, Turns}
use Rattle.desk.specs.Desk.{Desk, waiting_for}
use Rattle.desk.specs.Meaning.{Meaning, can_read}
use Rattle.desk.specs.Reactions.{Reaction, says, hands_over, if_read, planned_row, class_row, method_row, shutdown_row, new_row, request_row, stopped_for_row}
use Rattle.desk.specs.Reactions.{result_row, ticket_row, final_row, fitting_row, message_row}
use Rattle.desk.specs.Replies.{already_pending, outdated_reply, finished_reply}
use Rattle.desk.specs.Steps.{dispatched, submitted, planned, classed, asked, noted, shut_down, request_admitted, requested, counted, responded, outdated_for}
use Rattle.desk.specs.Steps.{settled}
use Rattle.desk.specs.Steps.{delivered, brought, job_ended, result_taken}
use Rattle.desk.specs.Scene.{Scene}
use Rattle.desk_laws.proofs.Settling.{row-without, without}

-- ---- parts that may be refused, one after another

pub err-and_then : {X Y E : Type 0} (r : Result X E) (f : X → Result Y E) (P : E → Type 0) → IfErr r P → ((x : X) → r ≡ Ok x → IfErr (f x) P)
    → IfErr (and_then r f) P
err-and_then (Ok x) f P p q = q x refl
err-and_then (Err e) f P p q = p

next-cases : {Y : Type 0} (b : Bool) (n : ℕ) (counter : Counter) (f : ℕ → Result Y Counter) (P : Counter → Type 0) → ltb n (2 ^ 64 - 1) ≡ b
    → (2 ^ 64 - 1 ≤ n → P counter) → IfErr (f (n + 1)) P
    → IfErr (and_then (if b then Ok (n + 1) else Err counter) f) P
next-cases true n counter f P h last on = on
next-cases false n counter f P h last on = last (ltb-false _ _ h)

-- the next number is refused only where the last one was used
pub err-next : {Y : Type 0} (n : ℕ) (counter : Counter) (f : ℕ → Result Y Counter) (P : Counter → Type 0) → (2 ^ 64 - 1 ≤ n → P counter) → IfErr (f (n + 1)) P
    → IfErr (and_then (next_number n counter) f) P
err-next n counter f P last on = next-cases (ltb n (2 ^ 64 - 1)) n counter f P refl last on

pub err-weaker : {X E : Type 0} (r : Result X E) (P Q : E → Type 0) → IfErr r P → ((e : E) → P e → Q e) → IfErr r Q
err-weaker (Ok x) P Q p q = tt
err-weaker (Err e) P Q p q = q e p

-- ---- the turn's number

pub counted-errs : (w : TurnState Desk) → IfErr (counted w) (λ c. (c ≡ Turns) × (2 ^ 64 - 1 ≤ w.state.turns))
unfolding counted
counted-errs w = err-next w.state.turns Turns _ (λ c. (c ≡ Turns) × (2 ^ 64 - 1 ≤ w.state.turns)) (λ last. (refl, last)) tt

-- ---- jobs

-- so many jobs pass the last number
abbrev pub TooMany : ℕ → Reaction → Counter → Type 0
TooMany last_job done counter = (counter ≡ Jobs) × (2 ^ 64 ≤ last_job + length done.jobs)

dispatch-errs : (scene : Scene) (class : PoolClass) (ticket : ℕ) (row : RowId) (params : Data) (w : TurnState Desk)
    → IfErr (dispatched scene class ticket row params w) (TooMany w.state.last_job (hands_over w.state.last_job scene.snapshot class ticket row params))
unfolding dispatched
dispatch-errs scene class ticket row params w =
    let done = hands_over w.state.last_job scene.snapshot class ticket row params in
    err-next w.state.last_job Jobs _ (TooMany w.state.last_job done) (λ last. (refl, omega (arith, last))) tt

submit-errs : (scene : Scene) (reads : Bool) (class : PoolClass) (ticket : ℕ) (id : RequestId) (row : RowId) (params : Data) (w : TurnState Desk)
    → IfErr (submitted scene reads class ticket row params w)
    (TooMany w.state.last_job (if_read reads id (hands_over w.state.last_job scene.snapshot class ticket row params)))
unfolding submitted
submit-errs scene true class ticket id row params w = dispatch-errs scene class ticket row params w
submit-errs scene false class ticket id row params w = tt

plan-errs : (meaning : Meaning) (scene : Scene) (p : Plan) (ticket : ℕ) (id : RequestId) (row : RowId) (params : Data) (w : TurnState Desk)
    → IfErr (planned meaning scene p ticket row params w) (TooMany w.state.last_job (planned_row meaning scene w.state.last_job p ticket id row params))
unfolding planned
plan-errs meaning scene plans.Shutdown ticket id row params w = tt
plan-errs meaning scene plans.Refuse ticket id row params w = tt
plan-errs meaning scene plans.Unknown ticket id row params w = tt
plan-errs meaning scene plans.Default ticket id row params w = tt
plan-errs meaning scene plans.Identity ticket id row params w = tt
plan-errs meaning scene plans.State ticket id row params w = tt
plan-errs meaning scene plans.OnLoop ticket id row params w = tt
plan-errs meaning scene (plans.Job class) ticket id row params w = submit-errs scene (can_read meaning row params) class ticket id row params w

class-errs : (meaning : Meaning) (scene : Scene) (ticket : ℕ) (id : RequestId) (row : RowId) (params : Data) (w : TurnState Desk)
    → IfErr (classed meaning scene ticket row params w) (TooMany w.state.last_job (class_row meaning scene w.state ticket id row params))
unfolding classed
class-errs meaning scene ticket id row params w = plan-errs meaning scene (plan (Some row) scene.loading scene.incomplete w.state.shutdown) ticket id row params
    w

-- ---- requests

none-errs : (b : Bool) (refused answered : TurnState Desk) (P : Counter → Type 0) → IfErr (if b then Ok refused else Ok answered) P
none-errs true refused answered P = tt
none-errs false refused answered P = tt

method-errs : (meaning : Meaning) (scene : Scene) (r : Request) (o : Option RowId) (w : TurnState Desk)
    → IfErr (asked meaning scene o r.method r.params (noted r.id w)) (TooMany w.state.last_job (method_row meaning scene w.state w.state.turns o r))
unfolding asked noted
method-errs meaning scene r None w = none-errs w.state.shutdown _ _ _
method-errs meaning scene r (Some row) w = class-errs meaning scene w.state.turns r.id row r.params (noted r.id w)

admit-errs : (meaning : Meaning) (scene : Scene) (r : Request) (w : TurnState Desk) (b : Bool)
    → IfErr (if b then Ok (shut_down r.params (noted r.id w)) else asked meaning scene (row_of r.method) r.method r.params (noted r.id w))
    (TooMany w.state.last_job (if b then shutdown_row r.id r.params else method_row meaning scene w.state w.state.turns (row_of r.method) r))
admit-errs meaning scene r w true = tt
admit-errs meaning scene r w false = method-errs meaning scene r (row_of r.method) w

request-cases : (meaning : Meaning) (scene : Scene) (r : Request) (w refused : TurnState Desk) (b : Bool)
    → IfErr (if b then Ok refused else request_admitted meaning scene r.method r.params (noted r.id w))
    (TooMany w.state.last_job (if b then says (already_pending r.id) else new_row meaning scene w.state w.state.turns r))
unfolding request_admitted
request-cases meaning scene r w refused true = tt
request-cases meaning scene r w refused false = admit-errs meaning scene r w (is_shutdown (row_of r.method))

pub request-errs : (meaning : Meaning) (scene : Scene) (r : Request) (w : TurnState Desk)
    → IfErr (requested meaning scene r w) (TooMany w.state.last_job (request_row meaning scene w.state w.state.turns r))
unfolding requested
request-errs meaning scene r w = request-cases meaning scene r w _ (is_pending r.id w.state.pending)

-- ---- results

stop-cases : (meaning : Meaning) (scene : Scene) (ticket : ℕ) (id : RequestId) (row : RowId) (params : Data) (w : TurnState Desk) (b : Bool)
    → IfErr (if b then Ok (responded ticket (outdated_reply (class_of row)) w) else classed meaning scene ticket row params w)
    (TooMany w.state.last_job (if b then says (outdated_reply (class_of row) id) else class_row meaning scene w.state ticket id row params))
stop-cases meaning scene ticket id row params w true = tt
stop-cases meaning scene ticket id row params w false = class-errs meaning scene ticket id row params w

stop-errs : (meaning : Meaning) (scene : Scene) (id : RequestId) (revision : ℕ) (o : Option AskedFor) (w : TurnState Desk)
    → IfErr (outdated_for meaning scene revision o w) (TooMany w.state.last_job (stopped_for_row meaning scene w.state id revision o))
unfolding outdated_for
stop-errs meaning scene id revision None w = tt
stop-errs meaning scene id revision (Some r) w =
    stop-cases meaning scene r.ticket id r.row r.params w (ltb revision scene.snapshot.revision && not (retries r.row))

result-errs : (meaning : Meaning) (scene : Scene) (id : RequestId) (job : Job) (o : Option Response) (w : TurnState Desk)
    → IfErr (settled meaning scene o id job w) (TooMany w.state.last_job (result_row meaning scene w.state o id job))
unfolding settled
result-errs meaning scene id job (Some response) w = tt
result-errs meaning scene id job None w = stop-errs meaning scene id job.snapshot.revision (asked_for job.kind) w

ticket-errs : (meaning : Meaning) (scene : Scene) (request : Option RequestId) (job : Job) (result : JobResult) (w : TurnState Desk)
    → IfErr (delivered meaning scene request job result w) (TooMany w.state.last_job (ticket_row meaning scene w.state request job result))
unfolding delivered
ticket-errs meaning scene None job result w = tt
ticket-errs meaning scene (Some id) job result w = result-errs meaning scene id job (finished_reply id result) w

final-errs : (meaning : Meaning) (scene : Scene) (final : Option JobResult) (job : Job) (number : ℕ) (w : TurnState Desk)
    → IfErr (brought meaning scene final job number w) (TooMany w.state.last_job (final_row meaning scene w.state final job))
unfolding brought
final-errs meaning scene None job number w = tt
final-errs meaning scene (Some result) job number w =
    subst (λ d. IfErr (brought meaning scene (Some result) job number w) (TooMany w.state.last_job d))
    (row-without meaning scene w.state (map.remove w.state.jobs number) (Some result) job)
    (ticket-errs meaning scene (waiting_for job w.state) job result (without number w))

job-errs : (meaning : Meaning) (scene : Scene) (job : Option Job) (message : TaskMsg) (w : TurnState Desk)
    → IfErr (job_ended meaning scene job message w) (TooMany w.state.last_job (fitting_row meaning scene w.state job message))
unfolding job_ended
job-errs meaning scene None message w = tt
job-errs meaning scene (Some job) message w = final-errs meaning scene (final_of message.body) job message.job w

pub message-errs : (meaning : Meaning) (scene : Scene) (message : TaskMsg) (w : TurnState Desk)
    → IfErr (result_taken meaning scene message w) (TooMany w.state.last_job (message_row meaning scene w.state message))
message-errs meaning scene message w = job-errs meaning scene (fitting_job message w.state.jobs) message w
