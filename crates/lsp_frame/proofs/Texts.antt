-- A message's text is that of its object, what is known of its values is known of it, and it reads as the message.
use Rattle.std.proofs.Common.{◌≡◌, ℕ, List, ◌++◌, true, IsUtf8, Option, Some, None, option_map, option_and_then, refl, ap, ◌∙◌, append_assoc, codes}
use Rattle.std.specs.Prelude.{ℤ, IfSome, unwrap_or}
use Rattle.json.specs.Print.{escape_byte, quoted}
use Rattle.json.proofs.Printed.Utf8.{are_ascii, IsUtf8-are_ascii}
use Rattle.serde_json.specs.Data.{Data, null, boolean, number, string, array, object, no_members, put}
use Rattle.serde_json.specs.Find.{of_integer}
use Rattle.serde_json.specs.Written.{compact_text}
use Rattle.plain.specs.Reading.{as_i32}
use Rattle.lsp_frame.specs.declared.message.RequestId.{RequestId}
use Rattle.lsp_frame.specs.declared.message.RequestId.TheVariants.{Number, Text}
use Rattle.lsp_frame.specs.declared.message.ResponseError.{ResponseError}
use Rattle.lsp_frame.specs.declared.message.Message.{Message}
use Rattle.lsp_frame.specs.declared.message.Message.TheVariants.{Request, Notification, Response}
use Rattle.lsp_frame.specs.Exact.{IsExact, some_text, call_text, error_text}
use Rattle.lsp_frame.specs.Rules.{id_of, optional_id, optional_error, error_of, data_message}
use Rattle.lsp_frame.specs.Written.{put_some, params_data, id_data, optional_id_data, error_data, version}
use Rattle.lsp_frame.proofs.Exact.{IsExact-object}

-- an object with params, where there are some
abbrev notice : List ℕ → Option Data → Data
notice method params = object (put_some (codes "params") params (put (codes "method") (string method) version))

abbrev asking : Data → List ℕ → Option Data → Data
asking id method params = object (put (codes "id") id (put_some (codes "params") params (put (codes "method") (string method) version)))

abbrev fault : Data → List ℕ → Option Data → Data
fault code message extra = object (put_some (codes "data") extra (put (codes "message") (string message) (put (codes "code") code no_members)))

abbrev reply : Data → Option Data → Option Data → Data
reply id result error = object (put_some (codes "error") error (put_some (codes "result") result (put (codes "id") id version)))

-- ---- texts

pub notice_text : (method : List ℕ) (params : Option Data) → codes "{" ++ call_text method params ≡ compact_text (notice method params)
unfolding escape_byte
notice_text method None = refl
notice_text method (Some d) = refl

pub asking_text : (id : Data) (method : List ℕ) (params : Option Data) → codes "{\"id\":" ++ (compact_text id ++ (codes "," ++ call_text method params)) ≡ compact_text (asking id method params)
unfolding escape_byte
asking_text id method None = refl
asking_text id method (Some d) = refl

pub fault_text : (code : Data) (message : List ℕ) (extra : Option Data)
    → codes "{\"code\":" ++ (compact_text code ++ (some_text (codes ",\"data\":") extra ++ (codes ",\"message\":" ++ (quoted message ++ codes "}")))) ≡ compact_text (fault code message extra)
unfolding escape_byte
fault_text code message None = refl
fault_text code message (Some d) = refl

-- the members of a response behind its error
abbrev others_text : Data → Option Data → List ℕ
others_text id result = codes "\"id\":" ++ (compact_text id ++ (codes ",\"jsonrpc\":\"2.0\"" ++ (some_text (codes ",\"result\":") result ++ codes "}")))

pub reply_text : (id : Data) (result error : Option Data) → codes "{" ++ (error_text error ++ others_text id result) ≡ compact_text (reply id result error)
unfolding escape_byte
reply_text id None None = refl
reply_text id (Some d) None = refl
reply_text id None (Some e) = ap (λ s. codes "{\"error\":" ++ s) (append_assoc (compact_text e) (codes ",") (others_text id None))
reply_text id (Some d) (Some e) = ap (λ s. codes "{\"error\":" ++ s) (append_assoc (compact_text e) (codes ",") (others_text id (Some d)))

-- ---- the same where they were appended one after another

pub call_written : (old a b new method : List ℕ) (params : Option Data) → a ≡ old ++ (codes "\"jsonrpc\":\"2.0\",\"method\":" ++ quoted method) → b ≡ a ++ some_text (codes ",\"params\":") params → new ≡ b ++ codes "}"
    → new ≡ old ++ call_text method params
call_written old a b new method params p q r = rw (r, q, p) (simp append_assoc)

pub notice_written : (old a new method : List ℕ) (params : Option Data) → a ≡ old ++ codes "{" → new ≡ a ++ call_text method params → new ≡ old ++ compact_text (notice method params)
notice_written old a new method params p q = q ∙ ap (λ s. s ++ call_text method params) p ∙ append_assoc old (codes "{") (call_text method params) ∙ ap (λ s. old ++ s) (notice_text method params)

pub asking_written : (old a b new method : List ℕ) (id : Data) (params : Option Data) → a ≡ old ++ (codes "{\"id\":" ++ compact_text id) → b ≡ a ++ codes "," → new ≡ b ++ call_text method params
    → new ≡ old ++ compact_text (asking id method params)
asking_written old a b new method id params p q r =
    let first = codes "{\"id\":" ++ compact_text id in
    r ∙ ap (λ s. s ++ call_text method params) (q ∙ ap (λ s. s ++ codes ",") p)
    ∙ append_assoc (old ++ first) (codes ",") (call_text method params)
    ∙ append_assoc old first (codes "," ++ call_text method params)
    ∙ ap (λ s. old ++ s) (asking_text id method params)

pub fault_written : (old a b d new message : List ℕ) (code : Data) (extra : Option Data) → a ≡ old ++ (codes "{\"code\":" ++ compact_text code) → b ≡ a ++ some_text (codes ",\"data\":") extra
    → d ≡ b ++ (codes ",\"message\":" ++ quoted message) → new ≡ d ++ codes "}" → new ≡ old ++ compact_text (fault code message extra)
fault_written old a b d new message code extra p q r t =
    let first = codes "{\"code\":" ++ compact_text code in
    let second = some_text (codes ",\"data\":") extra in
    let third = codes ",\"message\":" ++ quoted message in
    t ∙ ap (λ s. s ++ codes "}") (r ∙ ap (λ s. s ++ third) (q ∙ ap (λ s. s ++ second) p))
    ∙ append_assoc ((old ++ first) ++ second) third (codes "}")
    ∙ append_assoc (old ++ first) second (third ++ codes "}")
    ∙ append_assoc old first (second ++ (third ++ codes "}"))
    ∙ ap (λ s. old ++ s) (fault_text code message extra)

pub reply_written : (old a b d e f new : List ℕ) (id : Data) (result error : Option Data) → a ≡ old ++ codes "{" → b ≡ a ++ error_text error → d ≡ b ++ (codes "\"id\":" ++ compact_text id)
    → e ≡ d ++ codes ",\"jsonrpc\":\"2.0\"" → f ≡ e ++ some_text (codes ",\"result\":") result → new ≡ f ++ codes "}" → new ≡ old ++ compact_text (reply id result error)
reply_written old a b d e f new id result error p q r s t u =
    let second = error_text error in
    let third = codes "\"id\":" ++ compact_text id in
    let fourth = codes ",\"jsonrpc\":\"2.0\"" in
    let fifth = some_text (codes ",\"result\":") result in
    u ∙ ap (λ x. x ++ codes "}") (t ∙ ap (λ x. x ++ fifth) (s ∙ ap (λ x. x ++ fourth) (r ∙ ap (λ x. x ++ third) (q ∙ ap (λ x. x ++ second) p))))
    ∙ append_assoc ((((old ++ codes "{") ++ second) ++ third) ++ fourth) fifth (codes "}")
    ∙ append_assoc (((old ++ codes "{") ++ second) ++ third) fourth (fifth ++ codes "}")
    ∙ append_assoc ((old ++ codes "{") ++ second) third (fourth ++ (fifth ++ codes "}"))
    ∙ append_assoc (old ++ codes "{") second (third ++ (fourth ++ (fifth ++ codes "}")))
    ∙ append_assoc old (codes "{") (second ++ (third ++ (fourth ++ (fifth ++ codes "}"))))
    ∙ ap (λ x. old ++ x) (reply_text id result error)

-- ---- what is known of them

version_exact : IsExact (string (codes "2.0"))
unfolding escape_byte
version_exact = record { numbers = tt; reads = refl; utf8 = IsUtf8-are_ascii _ refl }

abbrev key : (k : List ℕ) → are_ascii k ≡ true → IsUtf8 k
key = IsUtf8-are_ascii

pub notice_exact : (method : List ℕ) (params : Option Data) → IsExact (string method) → IfSome params IsExact → IsExact (notice method params)
notice_exact method None m p = IsExact-object _ (key _ refl, version_exact, (key _ refl, m, tt)) refl
notice_exact method (Some d) m p = IsExact-object _ (key _ refl, version_exact, (key _ refl, m, (key _ refl, p, tt))) refl

pub asking_exact : (id : Data) (method : List ℕ) (params : Option Data) → IsExact id → IsExact (string method) → IfSome params IsExact → IsExact (asking id method params)
asking_exact id method None i m p = IsExact-object _ (key _ refl, i, (key _ refl, version_exact, (key _ refl, m, tt))) refl
asking_exact id method (Some d) i m p = IsExact-object _ (key _ refl, i, (key _ refl, version_exact, (key _ refl, m, (key _ refl, p, tt)))) refl

pub fault_exact : (code : Data) (message : List ℕ) (extra : Option Data) → IsExact code → IsExact (string message) → IfSome extra IsExact → IsExact (fault code message extra)
fault_exact code message None c m p = IsExact-object _ (key _ refl, c, (key _ refl, m, tt)) refl
fault_exact code message (Some d) c m p = IsExact-object _ (key _ refl, c, (key _ refl, p, (key _ refl, m, tt))) refl

pub reply_exact : (id : Data) (result error : Option Data) → IsExact id → IfSome result IsExact → IfSome error IsExact → IsExact (reply id result error)
reply_exact id None None i r e = IsExact-object _ (key _ refl, i, (key _ refl, version_exact, tt)) refl
reply_exact id (Some d) None i r e = IsExact-object _ (key _ refl, i, (key _ refl, version_exact, (key _ refl, r, tt))) refl
reply_exact id None (Some f) i r e = IsExact-object _ (key _ refl, e, (key _ refl, i, (key _ refl, version_exact, tt))) refl
reply_exact id (Some d) (Some f) i r e = IsExact-object _ (key _ refl, e, (key _ refl, i, (key _ refl, version_exact, (key _ refl, r, tt)))) refl

-- ---- what they read as

params_back : (params : Data) → unwrap_or (params_data params) null ≡ params
params_back null = refl
params_back (boolean b) = refl
params_back (number n) = refl
params_back (string s) = refl
params_back (array ds) = refl
params_back (object ms) = refl

notice_message : (method : List ℕ) (params : Option Data) → data_message (notice method params) ≡ Some (Notification (record { method = method; params = unwrap_or params null }))
notice_message method None = refl
notice_message method (Some d) = refl

pub notice_reads : (method : List ℕ) (params : Data) → data_message (notice method (params_data params)) ≡ Some (Notification (record { method = method; params = params }))
notice_reads method params = notice_message method (params_data params) ∙ ap (λ p. Some (Notification (record { method = method; params = p }))) (params_back params)

abbrev request_with : List ℕ → Data → RequestId → Message
request_with method params id = Request (record { id = id; method = method; params = params })

asking_message : (id : RequestId) (method : List ℕ) (params : Option Data) → id_of (id_data id) ≡ Some id → data_message (asking (id_data id) method params) ≡ Some (request_with method (unwrap_or params null) id)
asking_message (Number z) method None h = ap (option_map (request_with method null)) h
asking_message (Number z) method (Some d) h = ap (option_map (request_with method d)) h
asking_message (Text s) method None h = refl
asking_message (Text s) method (Some d) h = refl

pub asking_reads : (id : RequestId) (method : List ℕ) (params : Data) → id_of (id_data id) ≡ Some id → data_message (asking (id_data id) method (params_data params)) ≡ Some (request_with method params id)
asking_reads id method params h = asking_message id method (params_data params) h ∙ ap (λ p. Some (request_with method p id)) (params_back params)

abbrev fault_with : List ℕ → Option Data → ℤ → ResponseError
fault_with message extra code = record { code = code; message = message; extra = extra }

pub fault_reads : (code : ℤ) (message : List ℕ) (extra : Option Data) → as_i32 (number (of_integer code)) ≡ Some code
    → optional_error (fault (number (of_integer code)) message extra) ≡ Some (Some (fault_with message extra code))
fault_reads code message None h = ap (λ c. option_map Some (option_and_then (λ n. Some (fault_with message None n)) c)) h
fault_reads code message (Some d) h = ap (λ c. option_map Some (option_and_then (λ n. Some (fault_with message (Some d) n)) c)) h

-- the response of what was read of its id and of its error
abbrev response_by : Option Data → Option (Option RequestId) → Option (Option ResponseError) → Option Message
response_by result id error = option_and_then (λ i. option_map (λ e. Response (record { id = i; result = result; error = e })) error) id

reply_message : (id : Data) (result error : Option Data) → data_message (reply id result error) ≡ response_by result (optional_id id) (error_of error)
reply_message id None None = refl
reply_message id (Some d) None = refl
reply_message id None (Some e) = refl
reply_message id (Some d) (Some e) = refl

pub reply_reads : (id : Option RequestId) (result : Option Data) (error : Option ResponseError) → optional_id (optional_id_data id) ≡ Some id → error_of (option_map error_data error) ≡ Some error
    → data_message (reply (optional_id_data id) result (option_map error_data error)) ≡ Some (Response (record { id = id; result = result; error = error }))
reply_reads id result error h g =
    reply_message (optional_id_data id) result (option_map error_data error)
    ∙ ap (λ i. response_by result i (error_of (option_map error_data error))) h
    ∙ ap (λ e. response_by result (Some id) e) g
