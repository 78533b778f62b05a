-- What is written for a message: a body of compact JSON with its keys in byte order (JSON-RPC 2.0), behind a header.
use Rattle.std.specs.Prelude.{◌≡◌, ◌≤◌, ℕ, false, List, ◌++◌, length, codes, decimal, if◌then◌else◌, Option, Some, None, option_map, IfSome}
use Rattle.plain.specs.Reading.{is_null}
use Rattle.serde_json.specs.Data.{Data, null, number, string, object, Members, no_members, put, depth}
use Rattle.serde_json.specs.Find.{of_integer}
use Rattle.serde_json.specs.Written.{compact_text, has_float}
use Rattle.lsp_frame.specs.declared.message.RequestId.{RequestId}
use Rattle.lsp_frame.specs.declared.message.RequestId.TheVariants.{Number, Text}
use Rattle.lsp_frame.specs.declared.message.ResponseError.{ResponseError}
use Rattle.lsp_frame.specs.declared.message.Message.{Message}
use Rattle.lsp_frame.specs.declared.message.Message.TheVariants.{Request, Notification, Response}
use Rattle.lsp_frame.specs.Frames.{empty_line}

-- the header of a body of this many bytes
unfoldable pub header_for : ℕ → List ℕ
header_for size = codes "Content-Length: " ++ decimal size ++ empty_line

-- one frame
abbrev pub frame_for : List ℕ → List ℕ
frame_for body = header_for (length body) ++ body

-- the members, with d at k, where there is a d
abbrev pub put_some : List ℕ → Option Data → Members → Members
put_some k None ms = ms
put_some k (Some d) ms = put k d ms

-- null params are left out
abbrev pub params_data : Data → Option Data
params_data d = if is_null d then None else Some d

-- an id is a number or a text
abbrev pub id_data : RequestId → Data
id_data (Number z) = number (of_integer z)
id_data (Text s) = string s

-- no id is null
abbrev pub optional_id_data : Option RequestId → Data
optional_id_data None = null
optional_id_data (Some id) = id_data id

-- an error, with its data where it has some
abbrev pub error_data : ResponseError → Data
error_data e =
    object (put_some (codes "data") e.extra (put (codes "message") (string e.message) (put (codes "code") (number (of_integer e.code)) no_members)))

-- the members that each message has
abbrev pub version : Members
version = put (codes "jsonrpc") (string (codes "2.0")) no_members

-- the members of a request and of a notification
abbrev pub call_members : List ℕ → Data → Members
call_members method params = put_some (codes "params") (params_data params) (put (codes "method") (string method) version)

-- a message as JSON
unfoldable pub data_of : Message → Data
data_of (Request r) = object (put (codes "id") (id_data r.id) (call_members r.method r.params))
data_of (Notification n) = object (call_members n.method n.params)
data_of (Response r) =
    object (put_some (codes "error") (option_map error_data r.error) (put_some (codes "result") r.result (put (codes "id") (optional_id_data r.id) version)))

-- the body
unfoldable pub body_of : Message → List ℕ
body_of m = compact_text (data_of m)

-- how deep the values in a message nest at most: two less than what is read, since a response holds its error, and that its data
unfoldable pub value_depth : ℕ
value_depth = 125

-- a value that a message can carry: each number in it is whole, and it does not nest too deep
pub record IsWritable (d : Data) : Type 0 where
  pub no_float : has_float d ≡ false
  pub nests : depth d ≤ value_depth

-- where there is one
abbrev pub IsWritableIfSome : Option Data → Type 0
IsWritableIfSome value = IfSome value IsWritable

-- the data of an error, where there is one
abbrev pub IsErrorWritable : Option ResponseError → Type 0
IsErrorWritable error = IfSome error (λ e. IsWritableIfSome e.extra)

-- the values of a message: its params, or its result and the data of its error
abbrev pub AreWritable : Message → Type 0
AreWritable (Request r) = IsWritable r.params
AreWritable (Notification n) = IsWritable n.params
AreWritable (Response r) = IsWritableIfSome r.result × IsErrorWritable r.error
