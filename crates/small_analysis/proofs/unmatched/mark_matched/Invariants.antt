use Rattle.small_analysis.proofs.UnmatchedLemmas.{Marks}
use Rattle.small_analysis.proofs.unmatched.mark_matched.Given as goal

abbrev pub invariant-loop-place : goal.invariant-loop-place
invariant-loop-place l = Marks l.text l.place l.openers.items l.marks
