-- What a `textDocument/didOpen` says (LSP 3.17, DidOpenTextDocumentParams).
use Rattle.std.specs.Prelude.{ℕ, List, codes, length, nat_le, if◌then◌else◌, Option, Some, None, option_and_then}
use Rattle.plain.specs.Reading.{as_i32}
use Rattle.serde_json.specs.Data.{Data, Members}
use Rattle.serde_json.specs.Find.{get_member, as_str}
use Rattle.lsp_types.specs.Documents.{document_members}
use Rattle.notify.specs.declared.notice.DidOpen.{DidOpen}

-- a text that a world can hold
abbrev pub text_within : List ℕ → Option (List ℕ)
text_within text = if nat_le (length text) 4294967295 then Some text else None

abbrev pub document_in : Members → Option DidOpen
document_in ms =
    option_and_then (λ uri. option_and_then (λ version. option_and_then (λ text. Some (record { uri = uri; version = version; text = text }))
    (option_and_then text_within (option_and_then as_str (get_member (codes "text") ms))))
    (option_and_then as_i32 (get_member (codes "version") ms)))
    (option_and_then as_str (get_member (codes "uri") ms))

-- the document that is opened, or none where the params are malformed
abbrev pub opened_in : Data → Option DidOpen
opened_in params = option_and_then document_in (document_members params)
