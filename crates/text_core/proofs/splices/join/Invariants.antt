use Rattle.std.proofs.Common.{string_bytes, vec_len}
use Rattle.std.specs.String.Boundary.{IsSplitPoint}
use Rattle.text_core.specs.Splices.{spliced}
use Rattle.text_core.proofs.SpliceLemmas.{IsOnTheWay}
use Rattle.text_core.proofs.splices.join.Given as goal

abbrev pub invariant-loop-splice : goal.invariant-loop-splice
invariant-loop-splice l = record {
  way : IsOnTheWay l.text (string_bytes l.joined) (spliced l.text l.fn.splices.items) l.place l.splices.items;
  split : IsSplitPoint l.text l.place;
}

abbrev pub decreases-loop-splice : goal.decreases-loop-splice
decreases-loop-splice l = vec_len l.splices
