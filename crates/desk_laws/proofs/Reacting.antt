-- What a row does for a request that waits: it answers it, or hands over one job for it.
use Rattle.std.proofs.Common.{◌≡◌, ℕ, Bool, true, false, refl, sym, ◌∙◌, subst, inl, inr}
use Rattle.std.specs.Prelude.{Option, None, Some, ◌&&◌, not, ltb, if◌then◌else◌}
use Rattle.std.specs.Option.{option_map}
use Rattle.serde_json.specs.Data.{Data, null}
use Rattle.lsp_frame.specs.declared.message.Request.{Request}
use Rattle.lsp_frame.specs.declared.message.RequestId.{RequestId}
use Rattle.lsp_frame.specs.declared.message.Response.{Response}
use Rattle.analysis_host.specs.declared.ask.Ask.TheVariants.{Request as RequestAsk}
use Rattle.method_table.specs.Plans.{plan, is_shutdown}
use Rattle.method_table.specs.Rows.{row_of, class_of, retries, default_of}
use Rattle.method_table.specs.declared.planned.Plan.{Plan}
use Rattle.method_table.specs.declared.planned.Plan.TheVariants as plans
use Rattle.method_table.specs.declared.row_id.RowId.{RowId}
use Rattle.method_table.specs.StateRequests.{request_of}
use Rattle.method_table.specs.Unit.{is_unit}
use Rattle.method_table.specs.declared.request.StateRequest.{StateRequest}
use Rattle.dispatch.specs.Responses.{response_with}
use Rattle.session_port.specs.Kinds.{AskedFor, asked_for, ticket_of_job}
use Rattle.session_port.proofs.Facts.{same-ticket, ticket_in}
use Rattle.session_port.specs.declared.job.Job.{Job}
use Rattle.session_port.specs.declared.job.JobKind.{JobKind}
use Rattle.session_port.specs.declared.job.JobResult.{JobResult}
use Rattle.desk.specs.Desk.{Desk}
use Rattle.desk.specs.Meaning.{Meaning, can_read}
use Rattle.desk.specs.Reactions.{Reaction, says, if_read, state_row, planned_row, class_row, method_row, new_row, stopped_for_row, outdated_row, result_row}
use Rattle.desk.specs.Replies.{shut_already, unknown_request, invalid_params, outdated_reply, finding_reply, finished_reply}
use Rattle.desk.specs.Scene.{Scene}
use Rattle.desk_laws.specs.Reacting.{Reacts}
use Rattle.desk_laws.proofs.Settling.{finding-id, finished-id, outdated-id}

says-reacts : (scene : Scene) (last_job ticket : ℕ) (id : RequestId) (response : Response) → response.id ≡ Some id → Reacts scene last_job ticket id (says response)
says-reacts scene last_job ticket id response is = inl (response, is, refl)

either-reacts : (scene : Scene) (last_job ticket : ℕ) (id : RequestId) (b : Bool) (x y : Reaction) → Reacts scene last_job ticket id x
    → Reacts scene last_job ticket id y → Reacts scene last_job ticket id (if b then x else y)
either-reacts scene last_job ticket id true x y p q = p
either-reacts scene last_job ticket id false x y p q = q

read-reacts : (scene : Scene) (last_job ticket : ℕ) (id : RequestId) (reads : Bool) (done : Reaction) → Reacts scene last_job ticket id done
    → Reacts scene last_job ticket id (if_read reads id done)
read-reacts scene last_job ticket id reads done p = either-reacts scene last_job ticket id reads done (says (invalid_params id)) p
    (says-reacts scene last_job ticket id (invalid_params id) refl)

state-reacts : (scene : Scene) (last_job ticket : ℕ) (id : RequestId) (o : Option StateRequest) → Reacts scene last_job ticket id (state_row id o)
state-reacts scene last_job ticket id None = says-reacts scene last_job ticket id (invalid_params id) refl
state-reacts scene last_job ticket id (Some request) = says-reacts scene last_job ticket id (response_with id null) refl

plan-reacts : (meaning : Meaning) (scene : Scene) (last_job : ℕ) (p : Plan) (ticket : ℕ) (id : RequestId) (row : RowId) (params : Data)
    → Reacts scene last_job ticket id (planned_row meaning scene last_job p ticket id row params)
plan-reacts meaning scene last_job plans.Shutdown ticket id row params = state-reacts scene last_job ticket id (request_of row params)
plan-reacts meaning scene last_job plans.Refuse ticket id row params = says-reacts scene last_job ticket id (shut_already id) refl
plan-reacts meaning scene last_job plans.Unknown ticket id row params = says-reacts scene last_job ticket id (unknown_request id) refl
plan-reacts meaning scene last_job plans.Default ticket id row params = says-reacts scene last_job ticket id (response_with id (default_of row)) refl
plan-reacts meaning scene last_job plans.Identity ticket id row params =
    read-reacts scene last_job ticket id (can_read meaning row params) _ (says-reacts scene last_job ticket id (response_with id params) refl)
plan-reacts meaning scene last_job plans.State ticket id row params = state-reacts scene last_job ticket id (request_of row params)
plan-reacts meaning scene last_job plans.OnLoop ticket id row params =
    let finding = meaning.answer scene.snapshot (RequestAsk row params) in
    read-reacts scene last_job ticket id (can_read meaning row params) _ (says-reacts scene last_job ticket id (finding_reply id finding) (finding-id id finding))
plan-reacts meaning scene last_job (plans.Job class) ticket id row params =
    read-reacts scene last_job ticket id (can_read meaning row params) _ (inr (class, row, params, refl))

class-reacts : (meaning : Meaning) (scene : Scene) (desk : Desk) (ticket : ℕ) (id : RequestId) (row : RowId) (params : Data)
    → Reacts scene desk.last_job ticket id (class_row meaning scene desk ticket id row params)
class-reacts meaning scene desk ticket id row params = plan-reacts meaning scene desk.last_job (plan (Some row) scene.loading scene.incomplete desk.shutdown)
    ticket id row params

method-reacts : (meaning : Meaning) (scene : Scene) (desk : Desk) (ticket : ℕ) (o : Option RowId) (r : Request)
    → Reacts scene desk.last_job ticket r.id (method_row meaning scene desk ticket o r)
method-reacts meaning scene desk ticket None r =
    either-reacts scene desk.last_job ticket r.id desk.shutdown (says (shut_already r.id)) (says (unknown_request r.id))
    (says-reacts scene desk.last_job ticket r.id (shut_already r.id) refl) (says-reacts scene desk.last_job ticket r.id (unknown_request r.id) refl)
method-reacts meaning scene desk ticket (Some row) r = class-reacts meaning scene desk ticket r.id row r.params

-- a request that is read
pub new-reacts : (meaning : Meaning) (scene : Scene) (desk : Desk) (ticket : ℕ) (r : Request)
    → Reacts scene desk.last_job ticket r.id (new_row meaning scene desk ticket r)
new-reacts meaning scene desk ticket r =
    either-reacts scene desk.last_job ticket r.id (is_shutdown (row_of r.method)) _ _
    (either-reacts scene desk.last_job ticket r.id (is_unit r.params) (says (response_with r.id null)) (says (invalid_params r.id))
    (says-reacts scene desk.last_job ticket r.id (response_with r.id null) refl) (says-reacts scene desk.last_job ticket r.id (invalid_params r.id) refl))
    (method-reacts meaning scene desk ticket (row_of r.method) r)

stop-asked : (meaning : Meaning) (scene : Scene) (desk : Desk) (ticket : ℕ) (id : RequestId) (revision : ℕ) (o : Option AskedFor)
    → option_map ticket_in o ≡ Some ticket → Reacts scene desk.last_job ticket id (stopped_for_row meaning scene desk id revision o)
stop-asked meaning scene desk ticket id revision None is = absurd cc
stop-asked meaning scene desk ticket id revision (Some r) is =
    let same : r.ticket ≡ ticket = cc in
    either-reacts scene desk.last_job ticket id (ltb revision scene.snapshot.revision && not (retries r.row)) (says (outdated_reply (class_of r.row) id)) _
    (says-reacts scene desk.last_job ticket id (outdated_reply (class_of r.row) id) (outdated-id (class_of r.row) id))
    (subst (λ u. Reacts scene desk.last_job u id (class_row meaning scene desk r.ticket id r.row r.params)) same
    (class-reacts meaning scene desk r.ticket id r.row r.params))

stop-reacts : (meaning : Meaning) (scene : Scene) (desk : Desk) (ticket : ℕ) (id : RequestId) (revision : ℕ) (kind : JobKind) → ticket_of_job kind ≡ Some ticket
    → Reacts scene desk.last_job ticket id (outdated_row meaning scene desk id revision kind)
stop-reacts meaning scene desk ticket id revision kind is =
    stop-asked meaning scene desk ticket id revision (asked_for kind) (sym (same-ticket kind) ∙ is)

-- a result of a job whose request waits
pub result-reacts : (meaning : Meaning) (scene : Scene) (desk : Desk) (ticket : ℕ) (id : RequestId) (job : Job) (result : JobResult) (o : Option Response)
    → finished_reply id result ≡ o → ticket_of_job job.kind ≡ Some ticket
    → Reacts scene desk.last_job ticket id (result_row meaning scene desk o id job)
result-reacts meaning scene desk ticket id job result (Some response) is its =
    says-reacts scene desk.last_job ticket id response (finished-id id result response is)
result-reacts meaning scene desk ticket id job result None is its = stop-reacts meaning scene desk ticket id job.snapshot.revision job.kind its
