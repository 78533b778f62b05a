use Rattle.std.proofs.Common.{arith, sym, ◌∙◌}
use Rattle.text_core.proofs.LineTextLemmas.{ends_text-next, ends_text-last}
use Rattle.text_core.proofs.offsets.text_end.Goals as goal

pub overflow_sub-result : goal.overflow_sub-result
overflow_sub-result c =
    let some = ends_text-next c.args.text.now c.args.line c.in-Some.next (sym (c.in-Some.ensures ∙ c.requires)) in
    omega (arith, some.0)

pub returns-in-Some : goal.returns-in-Some
returns-in-Some c = (ends_text-next c.args.text.now c.args.line c.in-Some.next (sym (c.in-Some.ensures ∙ c.requires))).1

pub returns-in-None : goal.returns-in-None
returns-in-None c =
    ends_text-last c.args.text.now c.args.line (sym (c.in-None.ensures ∙ c.requires))
