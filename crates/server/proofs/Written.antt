-- What answers an `initialize` can be written.
use Rattle.std.proofs.Common.{◌≡◌, true, refl, arith}
use Rattle.std.specs.Prelude.{codes}
use Rattle.serde_json.specs.Data.{Members, object, put, string, no_members}
use Rattle.plain.specs.Plain.{is_plain, is_within, members_within, most_levels}
use Rattle.plain.proofs.PlainLemmas.{is_within-object, is_within-parts, members_within-object, members_within-put}
use Rattle.analysis_host.specs.declared.server_info.ServerInfo.{ServerInfo}
use Rattle.lsp_frame.specs.Written.{IsWritable, value_depth}
use Rattle.text_core.specs.declared.position.PositionEncoding.{PositionEncoding}
use Rattle.server.specs.Replies.{encoding_name, info_value, initialize_result, server_capabilities, synchronization}

-- what the server can do nests no deeper than what it says itself
capabilities_within : (info : ServerInfo) (encoding : PositionEncoding) → is_plain (object info.capabilities) ≡ true
    → is_within 120 (server_capabilities info.capabilities encoding) ≡ true
unfolding most_levels
capabilities_within info encoding plain =
    let encoded : Members = put (codes "positionEncoding") (string (encoding_name encoding)) info.capabilities in
    let one : members_within 119 (put (codes "positionEncoding") (string (encoding_name encoding)) info.capabilities) ≡ true =
    members_within-put 119 (codes "positionEncoding") (string (encoding_name encoding)) info.capabilities
    refl (members_within-object 119 info.capabilities plain) in
    is_within-object 119 (put (codes "textDocumentSync") synchronization encoded)
    (members_within-put 119 (codes "textDocumentSync") synchronization encoded refl one)

info_within : (info : ServerInfo) → is_within 120 (info_value info) ≡ true
info_within info =
    let named : Members = put (codes "name") (string info.name) no_members in
    is_within-object 119 (put (codes "version") (string info.version) named)
    (members_within-put 119 (codes "version") (string info.version) named refl
    (members_within-put 119 (codes "name") (string info.name) no_members refl refl))

pub result_writable : (info : ServerInfo) (encoding : PositionEncoding) → is_plain (object info.capabilities) ≡ true
    → IsWritable (initialize_result info encoding)
unfolding value_depth
result_writable info encoding plain =
    let able : Members = put (codes "capabilities") (server_capabilities info.capabilities encoding) no_members in
    let within : is_within 121 (initialize_result info encoding) ≡ true =
    is_within-object 120 (put (codes "serverInfo") (info_value info) able)
    (members_within-put 120 (codes "serverInfo") (info_value info) able (info_within info)
    (members_within-put 120 (codes "capabilities") (server_capabilities info.capabilities encoding) no_members (capabilities_within info encoding plain) refl))
    in
    let parts = is_within-parts 121 (initialize_result info encoding) within in
    record { no_float = parts.0; nests = omega (arith, parts.1) }
