use Rattle.small_analysis.proofs.AskedLemmas.{step_kept}
use Rattle.small_analysis.proofs.brackets.partners_of.Goals as goal

pub loop-place-preserved : goal.loop-place-preserved
loop-place-preserved c =
    step_kept c.args.asked.now c.args.text.now c.loop-place.place c.loop-place.openers.items _ _ c.loop-place.partners _
    c.loop-place.invariant c.in_ok-opener.ensures.openers c.in_ok-opener.ensures.opener c.in_ok-keep_pair.ensures
