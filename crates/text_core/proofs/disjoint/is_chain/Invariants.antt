use Rattle.std.proofs.Common.{◌≡◌, ◌≤◌, ◌-◌, drop}
use Rattle.text_core.specs.Edits.{is_chain}
use Rattle.text_core.proofs.disjoint.is_chain.Given as goal

abbrev pub invariant-loop-i : goal.invariant-loop-i
invariant-loop-i l = (1 ≤ l.i) × (is_chain l.ranges ≡ is_chain (drop (l.i - 1) l.ranges))
