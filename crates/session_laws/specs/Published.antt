-- What messages publish: lists of diagnostics, each at a URL.
use Rattle.std.specs.Prelude.{ℕ, List, bytes_eq, codes, Option, None, Some, option_and_then, if◌then◌else◌}
use Rattle.std.specs.List.{filter_map}
use Rattle.serde_json.specs.Data.{Data}
use Rattle.serde_json.specs.Find.{as_str, get}
use Rattle.lsp_frame.specs.declared.message.Message.{Message}
use Rattle.lsp_frame.specs.declared.message.Message.TheVariants.{Notification, Request, Response}

-- a list of diagnostics, as JSON, at a URL
pub record Published : Type 0 where
  pub url : List ℕ
  pub list : Data

abbrev pub published_as : Option (List ℕ) → Option Data → Option Published
published_as None list = None
published_as (Some url) None = None
published_as (Some url) (Some list) = Some (record { url = url; list = list })

-- what the params of `textDocument/publishDiagnostics` tell
abbrev pub published_in : Data → Option Published
published_in params = published_as (option_and_then as_str (get (codes "uri") params)) (get (codes "diagnostics") params)

-- what a message publishes
abbrev pub published_by : Message → Option Published
published_by (Request r) = None
published_by (Response r) = None
published_by (Notification n) = if bytes_eq n.method (codes "textDocument/publishDiagnostics") then published_in n.params else None

abbrev pub published_among : List Message → List Published
published_among messages = filter_map published_by messages
