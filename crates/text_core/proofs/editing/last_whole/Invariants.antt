use Rattle.std.proofs.Common.{◌≤◌, length, drop}
use Rattle.text_core.specs.Whole.{HaveRanges}
use Rattle.text_core.proofs.editing.last_whole.Given as goal

abbrev pub invariant-loop-i : goal.invariant-loop-i
invariant-loop-i l = record {
  within : l.i ≤ length l.changes;
  ranged : HaveRanges l.limit (drop l.i l.changes);
}

abbrev pub decreases-loop-i : goal.decreases-loop-i
decreases-loop-i l = l.i
