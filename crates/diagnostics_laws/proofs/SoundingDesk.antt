-- The desk publishes nothing, and hands no job out within a turn.
use Rattle.std.proofs.Common.{◌≡◌, ℕ, List, [], ◌++◌, append-nil, Bool, true, false, refl, sym, ap, ◌∙◌}
use Rattle.std.specs.Prelude.{◌&&◌, not, ltb, Option, None, Some, is_some, cond, IfOk, if◌then◌else◌}
use Rattle.std.specs.Cmp.{nat_cmp_total}
use Rattle.std.specs.Ordering.{eq_by_cmp, nat_cmp}
use Rattle.std.specs.FinMap as map
use Rattle.lsp_frame.specs.Pending.{is_pending}
use Rattle.lsp_frame.specs.declared.message.Request.{Request}
use Rattle.lsp_frame.specs.declared.message.RequestId.{RequestId}
use Rattle.lsp_frame.specs.declared.message.Response.{Response}
use Rattle.method_table.specs.Plans.{is_shutdown, plan}
use Rattle.method_table.specs.Rows.{class_of, retries, row_of}
use Rattle.method_table.specs.Unit.{is_unit}
use Rattle.method_table.specs.declared.class.PoolClass.{PoolClass}
use Rattle.method_table.specs.declared.planned.Plan.{Plan}
use Rattle.method_table.specs.declared.planned.Plan.TheVariants as plans
use Rattle.method_table.specs.declared.row_id.RowId.{RowId}
use Rattle.serde_json.specs.Data.{Data}
use Rattle.analysis_host.specs.SnapshotData.{SnapshotData}
use Rattle.session_port.specs.Jobs.{Jobs, final_of, fitting_job, jobs_after, without_fitting}
use Rattle.session_port.specs.Kinds.{AskedFor, asked_for}
use Rattle.session_port.specs.TurnState.{TurnState, ordered}
use Rattle.session_port.specs.declared.event.TaskMsg.{TaskMsg}
use Rattle.session_port.specs.declared.fault.Counter.TheVariants.{Jobs as JobsCounter, Turns}
use Rattle.session_port.specs.declared.job.Job.{Job}
use Rattle.session_port.specs.declared.job.JobKind.{JobKind}
use Rattle.session_port.specs.declared.job.JobResult.{JobResult}
use Rattle.desk.specs.Desk.{Desk}
use Rattle.desk.specs.Meaning.{Meaning, can_read}
use Rattle.desk.specs.Reactions.{Reaction, cancel_row, class_row, final_row, fitting_row, if_read, message_row, method_row}
use Rattle.desk.specs.Reactions.{planned_row}
use Rattle.desk.specs.Reactions.{request_row, result_row, says, state_row, stopped_for_row, ticket_row}
use Rattle.desk.specs.Replies.{outdated_reply}
use Rattle.desk.specs.Scene.{Scene}
use Rattle.desk.specs.Steps.{cancelled, counted, handed_over, requested, result_taken}
use Rattle.desk_laws.specs.Settled.{Settled}
use Rattle.desk_laws.proofs.Results.{IfOk-next, IfOk-weaker}
use Rattle.desk_laws.proofs.Settling.{cancel-settles, message-settles, request-settles}
use Rattle.session_laws.specs.Published.{Published, published_among}
use Rattle.diagnostics_laws.proofs.KeyedBools.{none-some}
use Rattle.diagnostics_laws.proofs.Sounding.{AreAmong, told-append, told_in}

-- ---- replies

-- what is said publishes nothing
abbrev IsSilent : Reaction → Type 0
IsSilent done = published_among done.messages ≡ []

silent-if : (b : Bool) (x y : Reaction) → IsSilent x → IsSilent y → IsSilent (if b then x else y)
silent-if true x y h k = h
silent-if false x y h k = k

read-silent : (b : Bool) (id : RequestId) (done : Reaction) → IsSilent done → IsSilent (if_read b id done)
read-silent true id done h = h
read-silent false id done h = refl

planned-silent : (meaning : Meaning) (scene : Scene) (last_job : ℕ) (plan : Plan) (ticket : ℕ) (id : RequestId) (row : RowId) (params : Data)
    → IsSilent (planned_row meaning scene last_job plan ticket id row params)
planned-silent meaning scene last_job plans.Shutdown ticket id row params = state-silent _
  where
    state-silent : (o : _) → IsSilent (state_row id o)
    state-silent None = refl
    state-silent (Some request) = refl
planned-silent meaning scene last_job plans.Refuse ticket id row params = refl
planned-silent meaning scene last_job plans.Unknown ticket id row params = refl
planned-silent meaning scene last_job plans.Default ticket id row params = refl
planned-silent meaning scene last_job plans.Identity ticket id row params = read-silent (can_read meaning row params) id _ refl
planned-silent meaning scene last_job plans.State ticket id row params = state-silent _
  where
    state-silent : (o : _) → IsSilent (state_row id o)
    state-silent None = refl
    state-silent (Some request) = refl
planned-silent meaning scene last_job plans.OnLoop ticket id row params = read-silent (can_read meaning row params) id _ refl
planned-silent meaning scene last_job (plans.Job class) ticket id row params = read-silent (can_read meaning row params) id _ refl

class-silent : (meaning : Meaning) (scene : Scene) (desk : Desk) (ticket : ℕ) (id : RequestId) (row : RowId) (params : Data)
    → IsSilent (class_row meaning scene desk ticket id row params)
class-silent meaning scene desk ticket id row params =
    planned-silent meaning scene desk.last_job (plan (Some row) scene.loading scene.incomplete desk.shutdown) ticket id row params

method-silent : (meaning : Meaning) (scene : Scene) (desk : Desk) (ticket : ℕ) (o : Option RowId) (r : Request)
    → IsSilent (method_row meaning scene desk ticket o r)
method-silent meaning scene desk ticket None r = silent-if desk.shutdown _ _ refl refl
method-silent meaning scene desk ticket (Some row) r = class-silent meaning scene desk ticket r.id row r.params

request-silent : (meaning : Meaning) (scene : Scene) (desk : Desk) (ticket : ℕ) (r : Request) → IsSilent (request_row meaning scene desk ticket r)
request-silent meaning scene desk ticket r =
    silent-if (is_pending r.id desk.pending) _ _ refl
    (silent-if (is_shutdown (row_of r.method)) _ _ (silent-if (is_unit r.params) _ _ refl refl)
    (method-silent meaning scene desk ticket (row_of r.method) r))

stopped-silent : (meaning : Meaning) (scene : Scene) (desk : Desk) (id : RequestId) (revision : ℕ) (o : Option AskedFor)
    → IsSilent (stopped_for_row meaning scene desk id revision o)
stopped-silent meaning scene desk id revision None = refl
stopped-silent meaning scene desk id revision (Some r) =
    silent-if (ltb revision scene.snapshot.revision && not (retries r.row)) (says (outdated_reply (class_of r.row) id))
    (class_row meaning scene desk r.ticket id r.row r.params) refl (class-silent meaning scene desk r.ticket id r.row r.params)

result-silent : (meaning : Meaning) (scene : Scene) (desk : Desk) (o : Option Response) (id : RequestId) (job : Job)
    → IsSilent (result_row meaning scene desk o id job)
result-silent meaning scene desk (Some response) id job = refl
result-silent meaning scene desk None id job = stopped-silent meaning scene desk id job.snapshot.revision (asked_for job.kind)

ticket-silent : (meaning : Meaning) (scene : Scene) (desk : Desk) (o : Option RequestId) (job : Job) (result : JobResult)
    → IsSilent (ticket_row meaning scene desk o job result)
ticket-silent meaning scene desk None job result = refl
ticket-silent meaning scene desk (Some id) job result = result-silent meaning scene desk _ id job

final-silent : (meaning : Meaning) (scene : Scene) (desk : Desk) (o : Option JobResult) (job : Job) → IsSilent (final_row meaning scene desk o job)
final-silent meaning scene desk None job = refl
final-silent meaning scene desk (Some result) job = ticket-silent meaning scene desk _ job result

fitting-silent : (meaning : Meaning) (scene : Scene) (desk : Desk) (o : Option Job) (message : TaskMsg)
    → IsSilent (fitting_row meaning scene desk o message)
fitting-silent meaning scene desk None message = refl
fitting-silent meaning scene desk (Some job) message = final-silent meaning scene desk (final_of message.body) job

message-silent : (meaning : Meaning) (scene : Scene) (desk : Desk) (message : TaskMsg) → IsSilent (message_row meaning scene desk message)
message-silent meaning scene desk message = fitting-silent meaning scene desk (fitting_job message desk.jobs) message

cancel-silent : (id : RequestId) (desk : Desk) → IsSilent (cancel_row id desk)
cancel-silent id desk = silent-if (is_pending id desk.pending) _ _ refl refl

-- ---- steps

abbrev pub DeskStep : TurnState Desk → TurnState Desk → Type 0
DeskStep w v = (v.state.jobs ≡ w.state.jobs) × (told_in v.out ≡ told_in w.out)

-- a message ends a job
abbrev pub EndStep : TaskMsg → TurnState Desk → TurnState Desk → Type 0
EndStep message w v = (v.state.jobs ≡ jobs_after message w.state.jobs) × (told_in v.out ≡ told_in w.out)

settled-told : (request : Option Request) (w v : TurnState Desk) (done : Reaction) (jobs : Jobs) → Settled request w v done jobs → IsSilent done
    → told_in v.out ≡ told_in w.out
settled-told request w v done jobs s quiet =
    ap published_among s.written ∙ told-append w.out.messages done.messages ∙ ap (λ (ps : List Published). told_in w.out ++ ps) quiet ∙ append-nil _

left-by : (b : Bool) (o : Option Job) (job : Job) → cond b None o ≡ Some job → o ≡ Some job
left-by true o job is = none-some job is
left-by false o job is = is

ended-among : (b : Bool) (number : ℕ) (out : Jobs) → AreAmong (if b then map.remove out number else out) out
ended-among true number out =
    λ other job is. left-by (eq_by_cmp nat_cmp other number) (map.get out other) job (sym (map.get-remove nat_cmp_total out number other) ∙ is)
ended-among false number out = λ other job is. is

fitting-among : (o : Option Job) (message : TaskMsg) (out : Jobs) → AreAmong (without_fitting o message out) out
fitting-among None message out = λ number job is. is
fitting-among (Some job) message out = ended-among (is_some (final_of message.body)) message.job out

pub after-among : (message : TaskMsg) (out : Jobs) → AreAmong (jobs_after message out) out
after-among message out = fitting-among (fitting_job message out) message out

pub requested-step : (meaning : Meaning) (scene : Scene) (r : Request) (w : TurnState Desk) → IfOk (requested meaning scene r w) (DeskStep w)
requested-step meaning scene r w =
    IfOk-weaker (requested meaning scene r w) _ (DeskStep w) (request-settles meaning scene r w)
    (λ v s. (s.out, settled-told (Some r) w v _ w.state.jobs s (request-silent meaning scene w.state w.state.turns r)))

pub taken-step : (meaning : Meaning) (scene : Scene) (message : TaskMsg) (w : TurnState Desk)
    → IfOk (result_taken meaning scene message w) (EndStep message w)
taken-step meaning scene message w =
    IfOk-weaker (result_taken meaning scene message w) _ (EndStep message w) (message-settles meaning scene message w)
    (λ v s. (s.out, settled-told None w v _ (jobs_after message w.state.jobs) s (message-silent meaning scene w.state message)))

pub cancelled-step : (id : RequestId) (w : TurnState Desk) → DeskStep w (cancelled id w)
cancelled-step id w =
    let s = cancel-settles id w in (s.out, settled-told None w (cancelled id w) _ w.state.jobs s (cancel-silent id w.state))

pub spawned-step : (snapshot : SnapshotData) (class : PoolClass) (kind : JobKind) (w : TurnState Desk)
    → IfOk (handed_over snapshot class kind w) (DeskStep w)
unfolding ordered
spawned-step snapshot class kind w = IfOk-next w.state.last_job JobsCounter _ (DeskStep w) (refl, refl)

pub counted-step : (w : TurnState Desk) → IfOk (counted w) (DeskStep w)
unfolding counted
counted-step w = IfOk-next w.state.turns Turns _ (DeskStep w) (refl, refl)
