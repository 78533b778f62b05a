use Rattle.std.proofs.Common.{◌+◌, List, [], ap, subst, sym, ◌∙◌}
use Rattle.small_analysis.specs.Brackets.{located, opener_of}
use Rattle.small_analysis.specs.declared.brackets.Bracket.{Bracket}
use Rattle.small_analysis.proofs.UnmatchedLemmas.{Marks, marks_first, marks_more, marks_past, pair_has_marks}
use Rattle.small_analysis.proofs.unmatched.mark_matched.Goals as goal
use Rattle.small_analysis.proofs.unmatched.mark_matched.Goals.{then-is_bracket+in_ok-opener, else-is_bracket}

pub loop-place-init : goal.loop-place-init
loop-place-init c =
    subst (λ stack. Marks c.args.text.now 0 stack c.args.marks.now) (sym c.new-openers.ensures.items)
    (subst (Marks c.args.text.now 0 []) (sym c.requires.unmarked) (marks_first c.args.text.now))

pub mark_pair-requires : goal.mark_pair-requires
mark_pair-requires c =
    let at = c.loop-place in
    pair_has_marks c.args.text.now at.place c.in_ok-opener.opener at.marks c.loop-place-test.true at.invariant.marks.length_is
    (c.in_ok-opener.ensures.opener ∙ ap (opener_of (located c.args.text.now at.place)) at.invariant.openers)

pub loop-place-preserved : goal.loop-place-preserved
loop-place-preserved c =
    let at = c.loop-place in
    elim c.if-is_bracket.branch [
      | then-is_bracket+in_ok-opener w ↦
          marks_more c.args.text.now at.place at.openers.items _ w.in_ok-opener.opener at.marks _ c.loop-place-test.true at.invariant
          (ap (λ d. d.items) w.openers-is ∙ w.in_ok-opener.ensures.openers) w.in_ok-opener.ensures.opener (w.marks-is ∙ w.mark_pair.ensures)
      | else-is_bracket w ↦
          subst (Marks c.args.text.now (at.place + 1) c.if-is_bracket.openers.items) (sym w.marks-is)
          (subst (λ (stack : List Bracket). Marks c.args.text.now (at.place + 1) stack at.marks) (sym (ap (λ d. d.items) w.openers-is))
          (marks_past c.args.text.now at.place at.openers.items at.marks (sym c.is_bracket.ensures ∙ w.if-is_bracket.false) at.invariant))
    ]
