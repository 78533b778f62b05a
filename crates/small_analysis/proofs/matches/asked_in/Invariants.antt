use Rattle.std.proofs.Common.{ℕ, ◌<◌, get_or}
use Rattle.small_analysis.specs.Asked.{IsAsked}
use Rattle.text_core.specs.declared.position.Position.{Position}
use Rattle.small_analysis.proofs.matches.asked_in.Given as goal

abbrev pub invariant-loop-position : goal.invariant-loop-position
invariant-loop-position l = (k : ℕ) (d : Position) → k < l.position-index → IsAsked l.encoding l.index l.asked (get_or l.positions k d)
