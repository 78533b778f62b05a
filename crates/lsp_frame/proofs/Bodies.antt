-- The values of a message that can be written make a body that can be read.
use Rattle.std.proofs.Common.{◌≡◌, ◌≤◌, ℕ, true, List, Option, None, Some, refl, arith, codes}
use Rattle.std.specs.Prelude.{ℤ, pos, negsuc, option_map, IfSome}
use Rattle.serde_json.specs.Data.{Data, null, boolean, number, string, array, object, no_members, put, depth}
use Rattle.serde_json.specs.Find.{of_integer}
use Rattle.serde_json.specs.Read.{max_depth}
use Rattle.plain.specs.Plain.{is_plain}
use Rattle.plain.proofs.PlainLemmas.{is_plain-no_float, is_plain-depth}
use Rattle.lsp_frame.specs.declared.message.RequestId.{RequestId}
use Rattle.lsp_frame.specs.declared.message.RequestId.TheVariants.{Number, Text}
use Rattle.lsp_frame.specs.declared.message.ResponseError.{ResponseError}
use Rattle.lsp_frame.specs.declared.message.Message.{Message}
use Rattle.lsp_frame.specs.declared.message.Message.TheVariants.{Request, Notification, Response}
use Rattle.lsp_frame.specs.Written.{put_some, params_data, id_data, optional_id_data, error_data, version, data_of, value_depth, IsWritable, IsWritableIfSome, IsErrorWritable, AreWritable}

-- plain values can be written
pub plain_IsWritable : (d : Data) → is_plain d ≡ true → IsWritable d
unfolding value_depth
plain_IsWritable d h = record { no_float = is_plain-no_float d h; nests = omega (arith, is_plain-depth d h) }

pub IsWritable-null : IsWritable null
IsWritable-null = record { no_float = refl; nests = omega arith }

pub IsWritable-string : (s : List ℕ) → IsWritable (string s)
IsWritable-string s = record { no_float = refl; nests = omega arith }

pub integer_IsWritable : (z : ℤ) → IsWritable (number (of_integer z))
integer_IsWritable (pos n) = record { no_float = refl; nests = omega arith }
integer_IsWritable (negsuc n) = record { no_float = refl; nests = omega arith }

pub id_IsWritable : (id : RequestId) → IsWritable (id_data id)
id_IsWritable (Number z) = integer_IsWritable z
id_IsWritable (Text s) = IsWritable-string s

pub optional_id_IsWritable : (id : Option RequestId) → IsWritable (optional_id_data id)
optional_id_IsWritable None = IsWritable-null
optional_id_IsWritable (Some id) = id_IsWritable id

-- a value that nests at most so deep
abbrev Nests : ℕ → Data → Type 0
Nests most d = depth d ≤ most

value_nests : (d : Data) → IsWritable d → Nests 125 d
unfolding value_depth
value_nests d h = h.nests

id_nests : (id : RequestId) → Nests 0 (id_data id)
id_nests (Number z) = omega arith
id_nests (Text s) = omega arith

optional_id_nests : (id : Option RequestId) → Nests 0 (optional_id_data id)
optional_id_nests None = omega arith
optional_id_nests (Some id) = id_nests id

params_nest : (d : Data) → IsWritable d → IfSome (params_data d) (Nests 125)
params_nest null h = tt
params_nest (boolean b) h = value_nests (boolean b) h
params_nest (number n) h = value_nests (number n) h
params_nest (string s) h = value_nests (string s) h
params_nest (array ds) h = value_nests (array ds) h
params_nest (object ms) h = value_nests (object ms) h

notice_nests : (method : List ℕ) (params : Option Data) → IfSome params (Nests 125)
    → Nests 127 (object (put_some (codes "params") params (put (codes "method") (string method) version)))
notice_nests method None h = omega arith
notice_nests method (Some d) h = omega (arith, h)

request_nests : (id : Data) (method : List ℕ) (params : Option Data) → Nests 0 id → IfSome params (Nests 125)
    → Nests 127 (object (put (codes "id") id (put_some (codes "params") params (put (codes "method") (string method) version))))
request_nests id method None i h = omega (arith, i)
request_nests id method (Some d) i h = omega (arith, i, h)

error_nests : (code : Data) (text : List ℕ) (extra : Option Data) → Nests 0 code → IfSome extra (Nests 125)
    → Nests 126 (object (put_some (codes "data") extra (put (codes "message") (string text) (put (codes "code") code no_members))))
error_nests code text None i h = omega (arith, i)
error_nests code text (Some d) i h = omega (arith, i, h)

response_nests : (id : Data) (result error : Option Data) → Nests 0 id → IfSome result (Nests 125) → IfSome error (Nests 126)
    → Nests 127 (object (put_some (codes "error") error (put_some (codes "result") result (put (codes "id") id version))))
response_nests id None None i h g = omega (arith, i)
response_nests id (Some d) None i h g = omega (arith, i, h)
response_nests id None (Some e) i h g = omega (arith, i, g)
response_nests id (Some d) (Some e) i h g = omega (arith, i, g, h)

some_nests : (value : Option Data) → IsWritableIfSome value → IfSome value (Nests 125)
some_nests None h = tt
some_nests (Some d) h = value_nests d h

fault_nests : (error : Option ResponseError) → IsErrorWritable error → IfSome (option_map error_data error) (Nests 126)
fault_nests None h = tt
fault_nests (Some e) h = error_nests (number (of_integer e.code)) e.message e.extra (omega arith) (some_nests e.extra h)

pub body_nests : (m : Message) → AreWritable m → depth (data_of m) ≤ max_depth
unfolding data_of
body_nests (Request r) h = request_nests (id_data r.id) r.method (params_data r.params) (id_nests r.id) (params_nest r.params h)
body_nests (Notification n) h = notice_nests n.method (params_data n.params) (params_nest n.params h)
body_nests (Response r) h = response_nests (optional_id_data r.id) r.result (option_map error_data r.error) (optional_id_nests r.id) (some_nests r.result h.0) (fault_nests r.error h.1)
