use Rattle.std.proofs.Common.{◌≡◌, subst, sym, ap, ◌∙◌, min}
use Rattle.std.specs.List.{replace_range}
use Rattle.text_core.specs.CommonEnds.{HasEnds, ComesFrom}
use Rattle.text_core.proofs.EndLemmas.{both_ends, ends-first, ends-next}
use Rattle.text_core.proofs.ends.ends_after.Goals as goal

pub returns-in-None : goal.returns-in-None
returns-in-None c = λ before text new to from rising within last.
    let same : text ≡ before = subst (ComesFrom before text) c.in-None.is from in
    subst (λ k. HasEnds before (replace_range text c.args.front to new) (both_ends c.args.front k)) (sym last) (ends-first before text new c.args.front to same rising within)

pub returns-in-Some : goal.returns-in-Some
returns-in-Some c = λ before text new to from rising within last.
    let has : HasEnds before text c.in-Some.ends = subst (ComesFrom before text) c.in-Some.is from in
    ends-next before text new c.in-Some.ends c.args.front to c.min.result c.min-in-Some.result has rising within c.min.ensures
    (c.min-in-Some.ensures ∙ ap (min c.in-Some.ends.back) last)
