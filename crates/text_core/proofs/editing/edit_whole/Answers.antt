use Rattle.std.proofs.Common.{ap, subst, ◌∙◌, arith}
use Rattle.std.specs.List.{fold}
use Rattle.text_core.specs.Changes.{IsOther}
use Rattle.text_core.specs.Rebuilds.{begun}
use Rattle.text_core.specs.Whole.{taken}
use Rattle.text_core.proofs.FoldLemmas.{other_or}
use Rattle.text_core.proofs.editing.edit_whole.Goals as goal

pub returns-in_err-changed-clause-most : goal.returns-in_err-changed-clause-most
returns-in_err-changed-clause-most g c =
    let count = ap (λ t. (fold (taken c.args.encoding 4294967295) (begun t) c.args.changes.now).rebuilds) c.in_ok-whole.ensures in
    omega (arith, c.in_err-changed.ensures.most, count)

pub returns-clause-text : goal.returns-clause-text
returns-clause-text g c =
    let last = c.unwrap_or.ensures ∙ other_or _ _ _ c.in_ok-changed.ensures.text ∙ ap (λ t. (fold (taken c.args.encoding 4294967295) (begun t) c.args.changes.now).text) c.in_ok-whole.ensures in
    subst (λ t. IsOther c.args.index.now t c.unless_same.result) last c.unless_same.ensures

pub returns-clause-skipped : goal.returns-clause-skipped
returns-clause-skipped g c =
    c.in_ok-changed.ensures.skipped ∙ ap (λ t. (fold (taken c.args.encoding 4294967295) (begun t) c.args.changes.now).skipped) c.in_ok-whole.ensures

pub returns-clause-steps : goal.returns-clause-steps
returns-clause-steps g c =
    let count = ap (λ t. (fold (taken c.args.encoding 4294967295) (begun t) c.args.changes.now).rebuilds) c.in_ok-whole.ensures in
    omega (arith, c.in_ok-changed.ensures.steps, count)

pub returns-clause-most : goal.returns-clause-most
returns-clause-most g c =
    let count = ap (λ t. (fold (taken c.args.encoding 4294967295) (begun t) c.args.changes.now).rebuilds) c.in_ok-whole.ensures in
    omega (arith, c.in_ok-changed.ensures.most, count)
