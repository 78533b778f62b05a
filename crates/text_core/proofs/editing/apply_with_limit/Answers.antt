use Rattle.std.proofs.Common.{sym, ◌∙◌, arith, string_bytes}
use Rattle.text_core.proofs.FoldLemmas.{begins_document, begins_rebuilds, begins_most, begins_same}
use Rattle.text_core.proofs.editing.apply_with_limit.Goals as goal

pub returns-in_err-edited-clause-most : goal.returns-in_err-edited-clause-most
returns-in_err-edited-clause-most g c =
    let begins = begins_same _ c.args.file_contents.now _ c.args.content_changes (string_bytes c.in_ok-text.text) c.in_ok-text.from _ c.deref.result.now c.into_vec-changes.ensures (sym c.deref.ensures.value) c.in_ok-text.ensures.begins in
    let count = begins_rebuilds c.args.encoding _ _ _ _ _ begins in
    omega (arith, c.in_err-edited.ensures.most, count)

pub returns-in_err-edited-clause-one_each : goal.returns-in_err-edited-clause-one_each
returns-in_err-edited-clause-one_each g c =
    let begins = begins_same _ c.args.file_contents.now _ c.args.content_changes (string_bytes c.in_ok-text.text) c.in_ok-text.from _ c.deref.result.now c.into_vec-changes.ensures (sym c.deref.ensures.value) c.in_ok-text.ensures.begins in
    let most = begins_most c.args.encoding _ _ _ _ _ begins in
    omega (arith, c.in_err-edited.ensures.most, most)

pub returns-clause-text : goal.returns-clause-text
returns-clause-text g c =
    let begins = begins_same _ c.args.file_contents.now _ c.args.content_changes (string_bytes c.in_ok-text.text) c.in_ok-text.from _ c.deref.result.now c.into_vec-changes.ensures (sym c.deref.ensures.value) c.in_ok-text.ensures.begins in
    c.in_ok-edited.ensures.text ∙ sym (begins_document c.args.encoding _ _ _ _ _ begins)

pub returns-clause-rebuilds : goal.returns-clause-rebuilds
returns-clause-rebuilds g c =
    let begins = begins_same _ c.args.file_contents.now _ c.args.content_changes (string_bytes c.in_ok-text.text) c.in_ok-text.from _ c.deref.result.now c.into_vec-changes.ensures (sym c.deref.ensures.value) c.in_ok-text.ensures.begins in
    let count = begins_rebuilds c.args.encoding _ _ _ _ _ begins in
    omega (arith, c.in_ok-edited.ensures.steps, count)

pub returns-clause-most : goal.returns-clause-most
returns-clause-most g c =
    let begins = begins_same _ c.args.file_contents.now _ c.args.content_changes (string_bytes c.in_ok-text.text) c.in_ok-text.from _ c.deref.result.now c.into_vec-changes.ensures (sym c.deref.ensures.value) c.in_ok-text.ensures.begins in
    let count = begins_rebuilds c.args.encoding _ _ _ _ _ begins in
    omega (arith, c.in_ok-edited.ensures.most, count)

pub returns-clause-one_each : goal.returns-clause-one_each
returns-clause-one_each g c =
    let begins = begins_same _ c.args.file_contents.now _ c.args.content_changes (string_bytes c.in_ok-text.text) c.in_ok-text.from _ c.deref.result.now c.into_vec-changes.ensures (sym c.deref.ensures.value) c.in_ok-text.ensures.begins in
    let most = begins_most c.args.encoding _ _ _ _ _ begins in
    omega (arith, c.in_ok-edited.ensures.most, most)
