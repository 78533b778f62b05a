use Rattle.std.proofs.Common.{◌≡◌, Some, sym, subst, ◌∙◌, arith}
use Rattle.std.specs.Str.{IsCharBoundary}
use Rattle.text_core.specs.Positions.{line_start}
use Rattle.text_core.proofs.PlaceLemmas.{line_end-bounds, line_end-split, line_start-split}
use Rattle.text_core.proofs.offsets.line_span.Goals as goal

pub returns-clause-rising : goal.returns-clause-rising
returns-clause-rising c =
    let here : line_start c.args.line c.args.text.now ≡ Some c.in_ok-start.start = sym (c.in_ok-start.ensures ∙ c.requires c.args.line (omega arith)) in
    omega (arith, (line_end-bounds c.args.line c.args.text.now _ here).0)

pub returns-clause-within : goal.returns-clause-within
returns-clause-within c =
    let here : line_start c.args.line c.args.text.now ≡ Some c.in_ok-start.start = sym (c.in_ok-start.ensures ∙ c.requires c.args.line (omega arith)) in
    omega (arith, (line_end-bounds c.args.line c.args.text.now _ here).1)

pub returns-clause-start_split : goal.returns-clause-start_split
returns-clause-start_split c =
    line_start-split c.args.line c.args.text.now c.in_ok-start.start c.utf8.text (sym (c.in_ok-start.ensures ∙ c.requires c.args.line (omega arith)))

pub returns-clause-end_split : goal.returns-clause-end_split
returns-clause-end_split c =
    let whole = subst (IsCharBoundary c.args.text.now) (sym c.line_end.ensures) (line_end-split c.args.line c.args.text.now c.utf8.text) in
    (whole.0, λ _ low wide. whole.1 low wide)
