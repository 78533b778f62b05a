-- The document that params name (LSP 3.17, TextDocumentIdentifier).
use Rattle.std.specs.Prelude.{ℕ, List, codes, Option, option_and_then}
use Rattle.serde_json.specs.Data.{Data, Members}
use Rattle.serde_json.specs.Find.{get_member, as_str, as_object}

-- the members of `textDocument`
abbrev pub document_members : Data → Option Members
document_members params = option_and_then as_object (option_and_then (get_member (codes "textDocument")) (as_object params))

-- the text `uri` of an object
abbrev pub uri_at : Members → Option (List ℕ)
uri_at ms = option_and_then as_str (get_member (codes "uri") ms)

abbrev pub take_uri : Data → Option (List ℕ)
take_uri d = option_and_then uri_at (as_object d)

-- the text `uri` in `textDocument`
abbrev pub take_document_uri : Data → Option (List ℕ)
take_document_uri params = option_and_then uri_at (document_members params)
