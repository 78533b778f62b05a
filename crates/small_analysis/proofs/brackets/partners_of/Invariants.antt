use Rattle.small_analysis.specs.Brackets.{brackets_before}
use Rattle.small_analysis.proofs.AskedLemmas.{Keeps}
use Rattle.small_analysis.proofs.brackets.partners_of.Given as goal

abbrev pub invariant-loop-place : goal.invariant-loop-place
invariant-loop-place l = Keeps l.asked (brackets_before l.text l.place) l.openers.items l.partners
