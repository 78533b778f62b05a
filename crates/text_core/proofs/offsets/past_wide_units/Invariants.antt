use Rattle.std.proofs.Common.{◌≡◌, ◌-◌, ◌≤◌, length, drop}
use Rattle.text_core.specs.declared.position.PositionEncoding.TheVariants.{Wide}
use Rattle.text_core.specs.Positions.{past_units}
use Rattle.text_core.proofs.LineLemmas.{further}
use Rattle.text_core.proofs.offsets.past_wide_units.Given as goal

abbrev pub invariant-loop-i : goal.invariant-loop-i
invariant-loop-i l = record {
  within : l.i ≤ length l.line;
  so_far : past_units (Wide l.fn.wide) l.fn.column l.line ≡ further l.i (past_units (Wide l.fn.wide) l.left (drop l.i l.line));
}

abbrev pub decreases-loop-i : goal.decreases-loop-i
decreases-loop-i l = length l.line - l.i
