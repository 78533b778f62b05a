-- What is to be cancelled (LSP 3.17, CancelParams and WorkDoneProgressCancelParams).
use Rattle.std.specs.Prelude.{codes, Option, Some, None, option_and_then}
use Rattle.serde_json.specs.Data.{Data, null, boolean, number, string, array, object}
use Rattle.serde_json.specs.Find.{get_member, as_object}
use Rattle.lsp_frame.specs.Rules.{id_of}
use Rattle.lsp_frame.specs.declared.message.RequestId.{RequestId}

-- the id of the request that is to be cancelled, or none where the params are malformed
abbrev pub request_in : Data → Option RequestId
request_in params = option_and_then (λ ms. option_and_then id_of (get_member (codes "id") ms)) (as_object params)

-- a token is a number or a text
abbrev pub token_of : Data → Option Data
token_of (number n) = Some (number n)
token_of (string s) = Some (string s)
token_of null = None
token_of (boolean b) = None
token_of (array ds) = None
token_of (object ms) = None

-- the token of the work that is to stop, or none where the params are malformed
abbrev pub token_in : Data → Option Data
token_in params = option_and_then (λ ms. option_and_then token_of (get_member (codes "token") ms)) (as_object params)
