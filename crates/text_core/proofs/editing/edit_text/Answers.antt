use Rattle.std.proofs.Common.{ap, ◌∙◌, arith}
use Rattle.std.specs.List.{fold}
use Rattle.text_core.specs.Rebuilds.{begun}
use Rattle.text_core.specs.Whole.{taken}
use Rattle.text_core.proofs.editing.edit_text.Goals as goal

pub returns-in_err-edit_draft-clause-most : goal.returns-in_err-edit_draft-clause-most
returns-in_err-edit_draft-clause-most g c =
    let count = ap (λ t. (fold (taken c.args.encoding c.args.limit) (begun t) c.args.changes.now).rebuilds) c.in_ok-draft.ensures.text in
    omega (arith, c.in_err-edit_draft.ensures.most, count)

pub returns-clause-text : goal.returns-clause-text
returns-clause-text g c =
    c.from_string.ensures ∙ c.in_ok-make.ensures ∙ c.in_ok-edit_draft.ensures.made.text ∙ ap (λ t. (fold (taken c.args.encoding c.args.limit) (begun t) c.args.changes.now).text) c.in_ok-draft.ensures.text

pub returns-clause-steps : goal.returns-clause-steps
returns-clause-steps g c =
    let count = ap (λ t. (fold (taken c.args.encoding c.args.limit) (begun t) c.args.changes.now).rebuilds) c.in_ok-draft.ensures.text in
    omega (arith, c.in_ok-edit_draft.ensures.steps, count)

pub returns-clause-most : goal.returns-clause-most
returns-clause-most g c =
    let count = ap (λ t. (fold (taken c.args.encoding c.args.limit) (begun t) c.args.changes.now).rebuilds) c.in_ok-draft.ensures.text in
    omega (arith, c.in_ok-edit_draft.ensures.most, count)
