-- What a client is answered while it begins (LSP 3.17, "Initialize Request").
use Rattle.std.specs.Prelude.{ℕ, negsuc, true, List, codes}
use Rattle.serde_json.specs.Data.{Data, Members, boolean, number, string, object, put, no_members, unsigned}
use Rattle.analysis_host.specs.declared.server_info.ServerInfo.{ServerInfo}
use Rattle.text_core.specs.declared.position.PositionEncoding.{PositionEncoding}
use Rattle.text_core.specs.declared.position.PositionEncoding.TheVariants.{Utf8, Wide}
use Rattle.text_core.specs.declared.position.WideEncoding.TheVariants.{Utf16, Utf32}
use Rattle.lsp_frame.specs.declared.message.RequestId.{RequestId}
use Rattle.lsp_frame.specs.declared.message.Response.{Response}
use Rattle.dispatch.specs.Responses.{refusal, response_with}
use Rattle.ra_config.specs.Config.{ConfigData}

-- the name of what a column counts
abbrev pub encoding_name : PositionEncoding → List ℕ
encoding_name Utf8 = codes "utf-8"
encoding_name (Wide Utf16) = codes "utf-16"
encoding_name (Wide Utf32) = codes "utf-32"

-- documents are told whole when they are opened, and by their changes then: `{"change":2,"openClose":true,"save":{}}`
abbrev pub synchronization : Data
synchronization =
    object (put (codes "save") (object no_members)
    (put (codes "openClose") (boolean true) (put (codes "change") (number (unsigned 2)) no_members)))

-- what the server can do: what it says itself, and what the session does, which stands where both are named
abbrev pub server_capabilities : Members → PositionEncoding → Data
server_capabilities own encoding = object
    (put (codes "textDocumentSync") synchronization
    (put (codes "positionEncoding") (string (encoding_name encoding)) own))

-- `{"name":..,"version":..}`
abbrev pub info_value : ServerInfo → Data
info_value info = object (put (codes "version") (string info.version)
    (put (codes "name") (string info.name) no_members))

-- `{"capabilities":..,"serverInfo":..}`
abbrev pub initialize_result : ServerInfo → PositionEncoding → Data
initialize_result info encoding =
    object (put (codes "serverInfo") (info_value info)
    (put (codes "capabilities") (server_capabilities info.capabilities encoding) no_members))

-- the answer to an `initialize` that these settings come of
abbrev pub welcome : ServerInfo → RequestId → ConfigData → Response
welcome info id config = response_with id (initialize_result info config.capabilities.encodings)

-- the answer to one that names no workspace: -32602
abbrev pub no_workspace : RequestId → Response
no_workspace id = refusal id (negsuc 32601) (codes "no workspace root")
