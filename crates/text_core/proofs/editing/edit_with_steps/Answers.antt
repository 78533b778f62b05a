use Rattle.std.proofs.Common.{◌≡◌, ◌+◌, OnOk, refl, subst, sym, ◌∙◌, arith}
use Rattle.std.proofs.lemmas.Result.{IfOk-weaker}
use Rattle.text_core.specs.Changes.{IsOther}
use Rattle.text_core.proofs.FoldLemmas.{begins_document, begins_skips, begins_rebuilds, begins_same, document_of, skips_of, rebuilds_of}
use Rattle.text_core.proofs.editing.edit_with_steps.Goals as goal

pub edit_whole-requires-clause-fits : goal.edit_whole-requires-clause-fits
edit_whole-requires-clause-fits g c = omega (arith, (c.in-Some.ensures.begins c.args.index.now).fits)

pub edit_whole-requires-clause-ranged : goal.edit_whole-requires-clause-ranged
edit_whole-requires-clause-ranged g c =
    let begins = begins_same _ c.args.index.now _ c.args.content_changes c.in-Some.text c.in-Some.from _ c.deref.result.now
    c.into_vec-changes.ensures (sym c.deref.ensures.value) (c.in-Some.ensures.begins c.args.index.now) in
    begins.ranged

pub returns-in-Some-clause-text : goal.returns-in-Some-clause-text
returns-in-Some-clause-text g c =
    let begins = begins_same _ c.args.index.now _ c.args.content_changes c.in-Some.text c.in-Some.from _ c.deref.result.now
    c.into_vec-changes.ensures (sym c.deref.ensures.value) (c.in-Some.ensures.begins c.args.index.now) in
    IfOk-weaker c.edit_whole.result _ _ (λ edited is. subst (λ t. IsOther c.args.index.now t edited.changed) (sym (begins_document c.args.encoding _ _ _ _ _ begins)) is) c.edit_whole.ensures.text

pub returns-in-Some-clause-skipped : goal.returns-in-Some-clause-skipped
returns-in-Some-clause-skipped g c =
    let begins = begins_same _ c.args.index.now _ c.args.content_changes c.in-Some.text c.in-Some.from _ c.deref.result.now
    c.into_vec-changes.ensures (sym c.deref.ensures.value) (c.in-Some.ensures.begins c.args.index.now) in
    IfOk-weaker c.edit_whole.result _ _ (λ edited is. is ∙ sym (begins_skips c.args.encoding _ _ _ _ _ begins)) c.edit_whole.ensures.skipped

pub returns-in-Some-clause-rebuilds : goal.returns-in-Some-clause-rebuilds
returns-in-Some-clause-rebuilds g c =
    let begins = begins_same _ c.args.index.now _ c.args.content_changes c.in-Some.text c.in-Some.from _ c.deref.result.now
    c.into_vec-changes.ensures (sym c.deref.ensures.value) (c.in-Some.ensures.begins c.args.index.now) in
    subst (λ n. OnOk c.edit_whole.result (c.edit_whole.new.steps ≡ c.args.steps.now + n)) (sym (begins_rebuilds c.args.encoding _ _ _ _ _ begins)) c.edit_whole.ensures.steps

pub returns-in-Some-clause-most : goal.returns-in-Some-clause-most
returns-in-Some-clause-most g c =
    let begins = begins_same _ c.args.index.now _ c.args.content_changes c.in-Some.text c.in-Some.from _ c.deref.result.now
    c.into_vec-changes.ensures (sym c.deref.ensures.value) (c.in-Some.ensures.begins c.args.index.now) in
    let count = begins_rebuilds c.args.encoding _ _ _ _ _ begins in
    omega (arith, c.edit_whole.ensures.most, count)

pub returns-clause-text : goal.returns-clause-text
returns-clause-text g c =
    let same = c.deref-in-None.ensures.value ∙ c.in-None.ensures.same refl ∙ c.into_vec-changes.ensures in
    IfOk-weaker c.edit_index.result _ _ (λ edited is. subst (λ t. IsOther c.args.index.now t edited.changed) (document_of c.args.encoding _ _ _ _ same) is) c.edit_index.ensures.text

pub returns-clause-skipped : goal.returns-clause-skipped
returns-clause-skipped g c =
    let same = c.deref-in-None.ensures.value ∙ c.in-None.ensures.same refl ∙ c.into_vec-changes.ensures in
    IfOk-weaker c.edit_index.result _ _ (λ edited is. is ∙ skips_of c.args.encoding _ _ _ _ same) c.edit_index.ensures.skipped

pub returns-clause-rebuilds : goal.returns-clause-rebuilds
returns-clause-rebuilds g c =
    let same = c.deref-in-None.ensures.value ∙ c.in-None.ensures.same refl ∙ c.into_vec-changes.ensures in
    subst (λ n. OnOk c.edit_index.result (c.edit_index.new.steps ≡ c.args.steps.now + n)) (rebuilds_of c.args.encoding _ _ _ _ same) c.edit_index.ensures.steps

pub returns-clause-most : goal.returns-clause-most
returns-clause-most g c =
    let same = c.deref-in-None.ensures.value ∙ c.in-None.ensures.same refl ∙ c.into_vec-changes.ensures in
    let count = rebuilds_of c.args.encoding 4294967295 c.args.index.now c.args.content_changes c.deref-in-None.result.now same in
    omega (arith, c.edit_index.ensures.most, count)
