-- The responses of a session (JSON-RPC 2.0, "Error object"; LSP 3.17, "ErrorCodes").
use Rattle.std.specs.Prelude.{ℕ, ℤ, negsuc, true, List, codes, Option, None, Some}
use Rattle.serde_json.specs.Data.{Data, boolean, object, member, no_members}
use Rattle.lsp_frame.specs.declared.message.RequestId.{RequestId}
use Rattle.lsp_frame.specs.declared.message.Response.{Response}
use Rattle.analysis_host.specs.Answers.{OutcomeSpec, answer, fault}
use Rattle.analysis_host.specs.declared.ask.Answer.{Answer}
use Rattle.analysis_host.specs.declared.ask.Answer.TheVariants.{Json as JsonAnswer}
use Rattle.dispatch.specs.Responses.{response_with, refusal, fault_code}
use Rattle.method_table.specs.declared.class.Class.{Class}
use Rattle.method_table.specs.declared.class.Class.TheVariants.{DocumentDiagnostic}
use Rattle.session_port.specs.declared.job.JobResult.{JobResult}
use Rattle.session_port.specs.declared.job.JobResult.TheVariants.{Value, Fault, Cancelled, NoMemory}
use Rattle.session_port.specs.declared.job.JobValue.{JobValue}
use Rattle.session_port.specs.declared.job.JobValue.TheVariants.{Json}

-- -32600
abbrev pub already_pending : RequestId → Response
already_pending id = refusal id (negsuc 32599) (codes "Request id is already pending.")

-- -32600
abbrev pub shut_already : RequestId → Response
shut_already id = refusal id (negsuc 32599) (codes "Shutdown already requested.")

-- -32601
abbrev pub unknown_request : RequestId → Response
unknown_request id = refusal id (negsuc 32600) (codes "unknown request")

-- -32602
abbrev pub invalid_params : RequestId → Response
invalid_params id = refusal id (negsuc 32601) (codes "invalid params")

-- -32800
abbrev pub canceled_by_client : RequestId → Response
canceled_by_client id = refusal id (negsuc 32799) (codes "canceled by client")

-- -32801
abbrev pub content_modified : RequestId → Response
content_modified id = refusal id (negsuc 32800) (codes "content modified")

-- the client is to ask again (LSP 3.17, DiagnosticServerCancellationData)
abbrev pub retrigger_request : Data
retrigger_request = object (member (codes "retriggerRequest") (boolean true) no_members)

-- -32802
abbrev pub server_cancelled : RequestId → Response
server_cancelled id = record {
  id = Some id;
  result = None;
  error = Some (record {
    code = negsuc 32801;
    message = codes "server cancelled the request";
    extra = Some retrigger_request;
  });
}

-- why a request is refused whose job stopped for a later revision
abbrev pub outdated_reply : Class → RequestId → Response
outdated_reply DocumentDiagnostic id = server_cancelled id
outdated_reply other id = content_modified id

abbrev pub fault_reply : RequestId → Option ℤ → List ℕ → Response
fault_reply id code message = refusal id (fault_code code) message

-- -32603
abbrev pub no_answer : RequestId → Response
no_answer id = refusal id (negsuc 32602) (codes "no answer")

-- only JSON fits a request's job
abbrev pub value_reply : RequestId → JobValue → Response
value_reply id (Json value) = response_with id value
value_reply id other = no_answer id

-- and only JSON answers a request
abbrev pub answer_reply : RequestId → Answer → Response
answer_reply id (JsonAnswer value) = response_with id value
answer_reply id other = no_answer id

-- what a question comes to
abbrev pub finding_reply : RequestId → OutcomeSpec → Response
finding_reply id (answer value) = answer_reply id value
finding_reply id (fault code message) = fault_reply id code message

-- what the request of a finished job is answered; a job that stopped has not finished
abbrev pub finished_reply : RequestId → JobResult → Option Response
finished_reply id (Value value) = Some (value_reply id value)
finished_reply id (Fault code message) = Some (fault_reply id code message)
finished_reply id (Cancelled saw) = None
finished_reply id NoMemory = Some (refusal id (negsuc 30999) (codes "out of memory"))
