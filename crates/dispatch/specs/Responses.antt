-- The response to a request, by what its query came to (JSON-RPC 2.0, "Response object").
use Rattle.std.specs.Prelude.{ℕ, ℤ, negsuc, List, Option, None, Some, Result, Ok, Err, if◌then◌else◌}
use Rattle.std.specs.Ordering.{int_eq}
use Rattle.serde_json.specs.Data.{Data, null}
use Rattle.lsp_frame.specs.declared.message.RequestId.{RequestId}
use Rattle.lsp_frame.specs.declared.message.Response.{Response}
use Rattle.analysis_host.specs.declared.ask.Answer.{Answer}
use Rattle.analysis_host.specs.declared.ask.Answer.TheVariants.{Json, Diagnostics, Tests, Roots, Primed}
use Rattle.analysis_host.specs.declared.ask.Outcome.{Outcome}
use Rattle.analysis_host.specs.declared.ask.Outcome.TheVariants.{Value, Fault, Cancelled}
use Rattle.dispatch.specs.declared.cancelled.HandlerCancelledError.{HandlerCancelledError}

abbrev pub response_with : RequestId → Data → Response
response_with id value = record { id = Some id; result = Some value; error = None }

abbrev pub refusal : RequestId → ℤ → List ℕ → Response
refusal id code message = record { id = Some id; result = None; error = Some (record { code = code; message = message; extra = None }) }

-- -31000
abbrev pub out_of_memory_code : ℤ
out_of_memory_code = negsuc 30999

-- -32603 (JSON-RPC 2.0, "Internal error")
abbrev pub internal_error_code : ℤ
internal_error_code = negsuc 32602

-- a fault's own code, but for the one that says that memory ran out
abbrev pub fault_code : Option ℤ → ℤ
fault_code None = internal_error_code
fault_code (Some code) = if int_eq code out_of_memory_code then internal_error_code else code

-- the result of an answer; only JSON answers a request
abbrev pub value_of : Answer → Data
value_of (Json value) = value
value_of (Diagnostics list) = null
value_of (Tests tests) = null
value_of (Roots paths) = null
value_of Primed = null

abbrev pub response_of : RequestId → Outcome → Result Response HandlerCancelledError
response_of id (Value answer) = Ok (response_with id (value_of answer))
response_of id (Fault code message) = Ok (refusal id (fault_code code) message)
response_of id (Cancelled saw) = Err (record { saw = saw })
