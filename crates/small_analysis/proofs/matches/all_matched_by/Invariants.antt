use Rattle.std.proofs.Common.{◌≡◌, drop}
use Rattle.small_analysis.specs.Matches.{all_matched}
use Rattle.small_analysis.proofs.ListLemmas.{joined}
use Rattle.small_analysis.proofs.matches.all_matched_by.Given as goal

abbrev pub invariant-loop-position : goal.invariant-loop-position
invariant-loop-position l = all_matched l.encoding l.index l.positions ≡ joined l.found (all_matched l.encoding l.index (drop l.position-index l.positions))
