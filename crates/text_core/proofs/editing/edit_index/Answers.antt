use Rattle.std.proofs.Common.{ap, sym, subst, ◌∙◌, arith, string_bytes}
use Rattle.std.specs.List.{fold}
use Rattle.text_core.specs.Changes.{IsOther}
use Rattle.text_core.specs.CommonEnds.{ComesFrom}
use Rattle.text_core.specs.Rebuilds.{begun}
use Rattle.text_core.specs.Whole.{taken}
use Rattle.text_core.proofs.editing.edit_index.Goals as goal

pub changed-requires-clause-from : goal.changed-requires-clause-from
changed-requires-clause-from g c =
    subst (λ t. ComesFrom t (string_bytes c.in_ok-edited.edited) c.edit_draft.new.draft.ends) c.in_ok-draft.ensures.text
    (subst (λ t. ComesFrom (string_bytes c.in_ok-draft.draft.text) t c.edit_draft.new.draft.ends) (sym c.in_ok-edited.ensures) c.in_ok-edit_draft.ensures.from)

pub returns-in_err-edit_draft-clause-most : goal.returns-in_err-edit_draft-clause-most
returns-in_err-edit_draft-clause-most g c =
    let count = ap (λ t. (fold (taken c.args.encoding 4294967295) (begun t) c.args.changes.now).rebuilds) c.in_ok-draft.ensures.text in
    omega (arith, c.in_err-edit_draft.ensures.most, count)

pub returns-in_err-changed-clause-most : goal.returns-in_err-changed-clause-most
returns-in_err-changed-clause-most g c =
    let count = ap (λ t. (fold (taken c.args.encoding 4294967295) (begun t) c.args.changes.now).rebuilds) c.in_ok-draft.ensures.text in
    omega (arith, c.in_ok-edit_draft.ensures.most, count)

pub returns-clause-text : goal.returns-clause-text
returns-clause-text g c =
    subst (λ t. IsOther c.args.index.now t c.in_ok-changed.changed) (c.in_ok-edited.ensures ∙ c.in_ok-edit_draft.ensures.made.text ∙ ap (λ t. (fold (taken c.args.encoding 4294967295) (begun t) c.args.changes.now).text) c.in_ok-draft.ensures.text)
    c.in_ok-changed.ensures

pub returns-clause-skipped : goal.returns-clause-skipped
returns-clause-skipped g c =
    c.in_ok-edit_draft.ensures.made.skipped ∙ ap (λ t. (fold (taken c.args.encoding 4294967295) (begun t) c.args.changes.now).skipped) c.in_ok-draft.ensures.text

pub returns-clause-steps : goal.returns-clause-steps
returns-clause-steps g c =
    let count = ap (λ t. (fold (taken c.args.encoding 4294967295) (begun t) c.args.changes.now).rebuilds) c.in_ok-draft.ensures.text in
    omega (arith, c.in_ok-edit_draft.ensures.steps, count)

pub returns-clause-most : goal.returns-clause-most
returns-clause-most g c =
    let count = ap (λ t. (fold (taken c.args.encoding 4294967295) (begun t) c.args.changes.now).rebuilds) c.in_ok-draft.ensures.text in
    omega (arith, c.in_ok-edit_draft.ensures.most, count)
