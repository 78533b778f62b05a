-- Which message a body is (JSON-RPC 2.0; LSP 3.17, "Abstract Message").
use Rattle.std.specs.Prelude.{ℕ, List, codes, if◌then◌else◌, Option, Some, None, option_map, option_and_then, unwrap_or}
use Rattle.plain.specs.Reading.{read_body, as_i32, is_null}
use Rattle.serde_json.specs.Data.{Data, null, boolean, number, string, array, object, Members}
use Rattle.serde_json.specs.Find.{get_member, as_str, as_object}
use Rattle.lsp_frame.specs.declared.message.RequestId.{RequestId}
use Rattle.lsp_frame.specs.declared.message.RequestId.TheVariants.{Number, Text}
use Rattle.lsp_frame.specs.declared.message.ResponseError.{ResponseError}
use Rattle.lsp_frame.specs.declared.message.Message.{Message}
use Rattle.lsp_frame.specs.declared.message.Message.TheVariants.{Request, Notification, Response}

-- an id is a whole number of 32 bits or a text
abbrev pub id_of : Data → Option RequestId
id_of (string s) = Some (Text s)
id_of (number n) = option_map Number (as_i32 (number n))
id_of null = None
id_of (boolean b) = None
id_of (array ds) = None
id_of (object ms) = None

-- a null id is none
abbrev pub optional_id : Data → Option (Option RequestId)
optional_id d = if is_null d then Some None else option_map Some (id_of d)

-- an error is an object with a whole code, a text, and data where it has some
abbrev pub error_object : Members → Option ResponseError
error_object ms =
    option_and_then (λ code. option_and_then (λ message. Some (record { code = code; message = message; extra = get_member (codes "data") ms }))
    (option_and_then as_str (get_member (codes "message") ms)))
    (option_and_then as_i32 (get_member (codes "code") ms))

-- an absent or null error is none
abbrev pub optional_error : Data → Option (Option ResponseError)
optional_error d = if is_null d then Some None else option_map Some (option_and_then error_object (as_object d))

-- the same of a member that may be absent
abbrev pub error_of : Option Data → Option (Option ResponseError)
error_of None = Some None
error_of (Some d) = optional_error d

-- absent params are null
abbrev pub params_of : Members → Data
params_of ms = unwrap_or (get_member (codes "params") ms) null

-- with a method: a request where there is an id that is not null, else a notification
abbrev pub call_of : List ℕ → Option Data → Members → Option Message
call_of method None ms = Some (Notification (record { method = method; params = params_of ms }))
call_of method (Some d) ms =
    if is_null d then Some (Notification (record { method = method; params = params_of ms }))
    else option_map (λ id. Request (record { id = id; method = method; params = params_of ms })) (id_of d)

-- without a method: a response
abbrev pub response_of : Data → Members → Option Message
response_of d ms =
    option_and_then (λ id. option_map (λ error. Response (record { id = id; result = get_member (codes "result") ms; error = error }))
    (error_of (get_member (codes "error") ms)))
    (optional_id d)

-- by the method and the id, where they are there; a method that is no text makes no message
abbrev pub message_by : Option Data → Option Data → Members → Option Message
message_by (Some m) id ms = option_and_then (λ method. call_of method id ms) (as_str m)
message_by None (Some d) ms = response_of d ms
message_by None None ms = None

-- the message that an object is
abbrev pub members_message : Members → Option Message
members_message ms = message_by (get_member (codes "method") ms) (get_member (codes "id") ms) ms

-- the message that a value is
abbrev pub data_message : Data → Option Message
data_message d = option_and_then members_message (as_object d)

-- the message that a body is
unfoldable pub message_of : List ℕ → Option Message
message_of body = option_and_then data_message (read_body body)
