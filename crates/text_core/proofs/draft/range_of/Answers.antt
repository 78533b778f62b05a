use Rattle.std.proofs.Common.{◌∙◌, ap, sym, subst, arith, string_bytes}
use Rattle.std.specs.Prelude.{IfOk, slice_get}
use Rattle.std.specs.String.Boundary.{IsSplitPoint}
use Rattle.std.proofs.lemmas.Result.{IfOk-weaker}
use Rattle.text_core.specs.Positions.{line_start, range_of}
use Rattle.text_core.proofs.KeptLemmas.{kept-within, part_below, range_behind}
use Rattle.text_core.proofs.StartLemmas.{starts-know}
use Rattle.text_core.proofs.draft.range_of.Goals as goal

pub range_of-requires : goal.range_of-requires
range_of-requires c = λ line low.
    ap (λ l. slice_get l line) c.deref.ensures.value
    ∙ starts-know _ _ c.requires.kept.own_starts line
    ∙ ap (line_start line) (sym c.as_str.ensures.value)

pub returns-clause-value : goal.returns-clause-value
returns-clause-value c =
    let draft = c.args.draft.now in
    c.range_of.ensures.value ∙ ap (λ t. range_of c.args.encoding t c.args.range) c.as_str.ensures.value
    ∙ sym (range_behind c.args.encoding (string_bytes draft.text) draft.splices.items draft.least c.args.range c.requires.kept.falls c.requires.kept.behind c.requires.before)

pub returns-clause-below : goal.returns-clause-below
returns-clause-below c =
    let draft = c.args.draft.now in
    part_below c.args.encoding (string_bytes draft.text) draft.splices.items draft.least c.args.range c.range_of.result c.requires.kept.falls c.requires.kept.behind c.requires.before
    (c.range_of.ensures.value ∙ ap (λ t. range_of c.args.encoding t c.args.range) c.as_str.ensures.value)
    (subst (λ t. IfOk c.range_of.result (λ places. IsSplitPoint t places.0)) c.as_str.ensures.value c.range_of.ensures.start_split)
    (subst (λ t. IfOk c.range_of.result (λ places. IsSplitPoint t places.1)) c.as_str.ensures.value c.range_of.ensures.end_split)
    c.range_of.ensures.rising

pub returns-clause-within : goal.returns-clause-within
returns-clause-within c =
    let draft = c.args.draft.now in
    let low = kept-within (string_bytes draft.text) draft.splices.items draft.size draft.starts.items draft.least c.requires.kept in
    IfOk-weaker c.range_of.result _ _ (λ places part. omega (arith, part.below, low)) (returns-clause-below c)
