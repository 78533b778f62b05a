-- The reply table: the messages that a request or a job's message gets, and the jobs that are handed over for it.
use Rattle.std.specs.Prelude.{ℕ, ◌+◌, ◌&&◌, List, [], ◌∷◌, ◌++◌, Bool, not, ltb, Option, None, Some, if◌then◌else◌}
use Rattle.serde_json.specs.Data.{Data, null}
use Rattle.lsp_frame.specs.Pending.{is_pending}
use Rattle.lsp_frame.specs.declared.message.Message.{Message}
use Rattle.lsp_frame.specs.declared.message.Message.TheVariants.{Response as ResponseMessage}
use Rattle.lsp_frame.specs.declared.message.RequestId.{RequestId}
use Rattle.lsp_frame.specs.declared.message.Request.{Request}
use Rattle.lsp_frame.specs.declared.message.Response.{Response}
use Rattle.analysis_host.specs.SnapshotData.{SnapshotData}
use Rattle.analysis_host.specs.declared.ask.Ask.TheVariants.{Request as RequestAsk}
use Rattle.method_table.specs.Plans.{plan, is_shutdown}
use Rattle.method_table.specs.Rows.{row_of, class_of, retries, default_of}
use Rattle.method_table.specs.declared.class.PoolClass.{PoolClass}
use Rattle.method_table.specs.declared.planned.Plan.{Plan}
use Rattle.method_table.specs.declared.planned.Plan.TheVariants as plans
use Rattle.method_table.specs.declared.row_id.RowId.{RowId}
use Rattle.method_table.specs.StateRequests.{request_of}
use Rattle.method_table.specs.Unit.{is_unit}
use Rattle.method_table.specs.declared.request.StateRequest.{StateRequest}
use Rattle.dispatch.specs.Responses.{response_with}
use Rattle.session_port.specs.Jobs.{final_of, fitting_job}
use Rattle.session_port.specs.Kinds.{AskedFor, asked_for}
use Rattle.session_port.specs.declared.event.TaskMsg.{TaskMsg}
use Rattle.session_port.specs.declared.job.Job.{Job}
use Rattle.session_port.specs.declared.job.JobKind.{JobKind}
use Rattle.session_port.specs.declared.job.JobKind.TheVariants.{Request as RequestJob}
use Rattle.session_port.specs.declared.job.JobResult.{JobResult}
use Rattle.session_port.specs.Written.{responses_in}
use Rattle.desk.specs.Desk.{Desk, waiting_for}
use Rattle.desk.specs.Meaning.{Meaning, can_read}
use Rattle.desk.specs.Replies.{already_pending, shut_already, unknown_request, invalid_params, canceled_by_client}
use Rattle.desk.specs.Replies.{outdated_reply, finding_reply, finished_reply}
use Rattle.desk.specs.Scene.{Scene}

-- what a turn does for requests: the responses and the reports of their parts, in the order in which they are written,
-- and the jobs that it hands over for them; whatever else it writes and orders is no part of it
pub record Reaction : Type 0 where
  pub messages : List Message
  pub jobs : List Job

abbrev pub responses_of : Reaction → List Response
responses_of done = responses_in done.messages

abbrev pub silent : Reaction
silent = record { messages = []; jobs = [] }

abbrev pub says : Response → Reaction
says response = record { messages = ResponseMessage response ∷ []; jobs = [] }

abbrev pub reactions_joined : Reaction → Reaction → Reaction
reactions_joined a b = record { messages = a.messages ++ b.messages; jobs = a.jobs ++ b.jobs }

-- one job for the request with this ticket, behind so many that were handed over
abbrev pub hands_over : ℕ → SnapshotData → PoolClass → ℕ → RowId → Data → Reaction
hands_over last_job snapshot class ticket row params = record {
  messages = [];
  jobs = (record { number = last_job + 1; class = class; kind = RequestJob ticket row params; snapshot = snapshot }) ∷ [];
}

-- this is done where the params can be read
abbrev pub if_read : Bool → RequestId → Reaction → Reaction
if_read reads id done = if reads then done else says (invalid_params id)

-- a request to change the session's own state
abbrev pub state_row : RequestId → Option StateRequest → Reaction
state_row id None = says (invalid_params id)
state_row id (Some request) = says (response_with id null)

-- a request of a row, by what is planned for it, where so many jobs were handed over
abbrev pub planned_row : Meaning → Scene → ℕ → Plan → ℕ → RequestId → RowId → Data → Reaction
planned_row meaning scene last_job plans.Shutdown ticket id row params = state_row id (request_of row params)
planned_row meaning scene last_job plans.Refuse ticket id row params = says (shut_already id)
planned_row meaning scene last_job plans.Unknown ticket id row params = says (unknown_request id)
planned_row meaning scene last_job plans.Default ticket id row params = says (response_with id (default_of row))
planned_row meaning scene last_job plans.Identity ticket id row params =
    if_read (can_read meaning row params) id (says (response_with id params))
planned_row meaning scene last_job plans.State ticket id row params = state_row id (request_of row params)
planned_row meaning scene last_job plans.OnLoop ticket id row params =
    if_read (can_read meaning row params) id
    (says (finding_reply id (meaning.answer scene.snapshot (RequestAsk row params))))
planned_row meaning scene last_job (plans.Job class) ticket id row params =
    if_read (can_read meaning row params) id (hands_over last_job scene.snapshot class ticket row params)

-- a request of a row
abbrev pub class_row : Meaning → Scene → Desk → ℕ → RequestId → RowId → Data → Reaction
class_row meaning scene desk ticket id row params =
    planned_row meaning scene desk.last_job (plan (Some row) scene.loading scene.incomplete desk.shutdown) ticket id row
    params

-- a request that isn't `shutdown`
abbrev pub method_row : Meaning → Scene → Desk → ℕ → Option RowId → Request → Reaction
method_row meaning scene desk ticket None r =
    if desk.shutdown then says (shut_already r.id) else says (unknown_request r.id)
method_row meaning scene desk ticket (Some row) r = class_row meaning scene desk ticket r.id row r.params

abbrev pub shutdown_row : RequestId → Data → Reaction
shutdown_row id params = if is_unit params then says (response_with id null) else says (invalid_params id)

-- a request whose id isn't pending
abbrev pub new_row : Meaning → Scene → Desk → ℕ → Request → Reaction
new_row meaning scene desk ticket r =
    if is_shutdown (row_of r.method) then shutdown_row r.id r.params else method_row meaning scene desk ticket
    (row_of r.method) r

-- a request that is read by the turn of this number
abbrev pub request_row : Meaning → Scene → Desk → ℕ → Request → Reaction
request_row meaning scene desk ticket r = if is_pending r.id desk.pending then says (already_pending r.id)
    else new_row meaning scene desk ticket r

-- a request that the client cancels
abbrev pub cancel_row : RequestId → Desk → Reaction
cancel_row id desk = if is_pending id desk.pending then says (canceled_by_client id) else silent

-- a job that stopped, of a request that is pending: where the revision is above the job's snapshot's and the row isn't
-- to be tried again, the request is refused; else it is taken as one that is read here, under its ticket
abbrev pub stopped_for_row : Meaning → Scene → Desk → RequestId → ℕ → Option AskedFor → Reaction
stopped_for_row meaning scene desk id revision None = silent
stopped_for_row meaning scene desk id revision (Some r) =
    if ltb revision scene.snapshot.revision && not (retries r.row) then says (outdated_reply (class_of r.row) id)
    else class_row meaning scene desk r.ticket id r.row r.params

abbrev pub outdated_row : Meaning → Scene → Desk → RequestId → ℕ → JobKind → Reaction
outdated_row meaning scene desk id revision kind = stopped_for_row meaning scene desk id revision (asked_for kind)

-- a result, of a request that is pending
abbrev pub result_row : Meaning → Scene → Desk → Option Response → RequestId → Job → Reaction
result_row meaning scene desk (Some response) id job = says response
result_row meaning scene desk None id job = outdated_row meaning scene desk id job.snapshot.revision job.kind

abbrev pub ticket_row : Meaning → Scene → Desk → Option RequestId → Job → JobResult → Reaction
ticket_row meaning scene desk None job result = silent
ticket_row meaning scene desk (Some id) job result = result_row meaning scene desk (finished_reply id result) id job

abbrev pub final_row : Meaning → Scene → Desk → Option JobResult → Job → Reaction
final_row meaning scene desk None job = silent
final_row meaning scene desk (Some result) job = ticket_row meaning scene desk (waiting_for job desk) job result

-- a message of a job, where it fits one
abbrev pub fitting_row : Meaning → Scene → Desk → Option Job → TaskMsg → Reaction
fitting_row meaning scene desk None message = silent
fitting_row meaning scene desk (Some job) message = final_row meaning scene desk (final_of message.body) job

abbrev pub message_row : Meaning → Scene → Desk → TaskMsg → Reaction
message_row meaning scene desk message = fitting_row meaning scene desk (fitting_job message desk.jobs) message
