-- What a `textDocument/didChange` says (LSP 3.17, DidChangeTextDocumentParams).
use Rattle.std.specs.Prelude.{codes, Option, option_map, option_and_then}
use Rattle.plain.specs.Reading.{as_i32}
use Rattle.serde_json.specs.Data.{Data, Members}
use Rattle.serde_json.specs.Find.{get_member, as_str, as_object, as_array}
use Rattle.lsp_types.specs.Edits.{read_edits}
use Rattle.notify.specs.declared.notice.DidChange.{DidChange}

abbrev pub change_in : Members → Option Data → Option DidChange
change_in document changes =
    option_and_then (λ uri. option_and_then (λ version. option_map (λ edits. record { uri = uri; version = version; changes = edits })
    (option_and_then read_edits (option_and_then as_array changes)))
    (option_and_then as_i32 (get_member (codes "version") document)))
    (option_and_then as_str (get_member (codes "uri") document))

abbrev pub members_change : Members → Option DidChange
members_change ms =
    option_and_then (λ document. change_in document (get_member (codes "contentChanges") ms)) (option_and_then as_object (get_member (codes "textDocument") ms))

-- the changes of a document, or none where the params are malformed
abbrev pub changed_in : Data → Option DidChange
changed_in params = option_and_then members_change (as_object params)
