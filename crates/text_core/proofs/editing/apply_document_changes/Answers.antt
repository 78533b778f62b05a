use Rattle.std.proofs.Common.{sym, ◌∙◌, string_bytes}
use Rattle.text_core.proofs.FoldLemmas.{begins_document, begins_same}
use Rattle.text_core.proofs.editing.apply_document_changes.Goals as goal

pub returns : goal.returns
returns c =
    let begins = begins_same _ c.args.file_contents.now _ c.args.content_changes (string_bytes c.in_ok-text.text) c.in_ok-text.from _ c.deref.result.now c.into_vec-changes.ensures (sym c.deref.ensures.value) c.in_ok-text.ensures.begins in
    c.in_ok-edited.ensures ∙ sym (begins_document c.args.encoding _ _ _ _ _ begins)
