use Rattle.std.proofs.Common.{◌≡◌, ap, subst, ◌∙◌, Some}
use Rattle.std.specs.Prelude.{slice_get}
use Rattle.std.proofs.lemmas.Option.{get_or_from_slice_get}
use Rattle.text_core.specs.declared.change.ContentChange.{ContentChange}
use Rattle.text_core.specs.Whole.{StandsLast}
use Rattle.text_core.proofs.FoldLemmas.{begins_whole}
use Rattle.text_core.proofs.editing.whole_text.Goals as goal

pub returns-clause-begins : goal.returns-clause-begins
returns-clause-begins c =
    let last : StandsLast c.args.limit c.args.changes.now.items c.in_ok-i.i = subst (λ l. StandsLast c.args.limit l c.in_ok-i.i) c.deref.ensures.value c.in_ok-i.ensures in
    let here : slice_get c.args.changes.now.items c.in_ok-i.i ≡ Some last.change = last.here in
    let same : c.index_mut.result.now ≡ last.change = c.index_mut.ensures.value ∙ get_or_from_slice_get c.args.changes.now.items c.in_ok-i.i last.change c.index_mut.result.now here in
    λ contents. begins_whole c.args.limit contents c.args.changes.now.items c.in_ok-i.i last _ c.replace-text.result
    (c.replace-text.ensures.value ∙ ap (λ (change : ContentChange). change.text) same)
