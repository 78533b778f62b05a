-- Which step of the handshake a message is (LSP 3.17, "Server lifecycle").
use Rattle.std.specs.Prelude.{ℕ, nat_eq, negsuc, Bool, true, false, ◌&&◌, List, codes, None, Some, if◌then◌else◌}
use Rattle.std.specs.Cmp.Lexicographic.{pointwise}
use Rattle.lsp_frame.specs.Written.{AreWritable}
use Rattle.lsp_frame.specs.declared.message.Message.{Message}
use Rattle.lsp_frame.specs.declared.message.Message.TheVariants.{Request, Notification, Response}
use Rattle.lsp_frame.specs.declared.message.Request.{Request as RequestBody}
use Rattle.lsp_frame.specs.declared.message.RequestId.{RequestId}
use Rattle.lsp_frame.specs.declared.message.Response.{Response as ResponseBody}
use Rattle.lsp_frame.specs.declared.step.Step.{Step}
use Rattle.lsp_frame.specs.declared.step.Step.TheVariants.{Initialize, Refuse, Ignore, Initialized, Exit}

abbrev pub is_text : List ℕ → List ℕ → Bool
is_text method name = pointwise nat_eq method name

-- -32002, ServerNotInitialized
abbrev pub refusal : RequestId → List ℕ → ResponseBody
refusal id expected = record {
  id = Some id;
  result = None;
  error = Some (record { code = negsuc 32001; message = expected; extra = None });
}

-- a request before `initialize` is that one or comes too early; one after it comes before `initialized`
abbrev pub request_step : Bool → RequestBody → Step
request_step false r =
    if is_text r.method (codes "initialize") then Initialize r.id r.params
    else Refuse (refusal r.id (codes "expected initialize request"))
request_step true r = Refuse (refusal r.id (codes "expected initialized notification"))

-- `exit` ends it at any time, `initialized` only behind `initialize`
abbrev pub notification_step : Bool → List ℕ → Step
notification_step begun method =
    if is_text method (codes "exit") then Exit
    else if begun && is_text method (codes "initialized") then Initialized
    else Ignore

-- the step that a message is, given whether `initialize` has come
abbrev pub step_of : Bool → Message → Step
step_of begun (Request r) = request_step begun r
step_of begun (Notification n) = notification_step begun n.method
step_of begun (Response r) = Ignore

-- whether `initialize` has come behind a step
abbrev pub begun_by : Bool → Step → Bool
begun_by begun (Initialize id params) = true
begun_by begun (Refuse response) = begun
begun_by begun Ignore = begun
begun_by begun Initialized = begun
begun_by begun Exit = begun

-- a refusal can be written
abbrev pub IfRefused : Step → Type 0
IfRefused (Initialize id params) = Unit {0}
IfRefused (Refuse response) = AreWritable (Response response)
IfRefused Ignore = Unit {0}
IfRefused Initialized = Unit {0}
IfRefused Exit = Unit {0}
