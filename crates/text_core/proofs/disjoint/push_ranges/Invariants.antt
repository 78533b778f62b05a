use Rattle.std.proofs.Common.{◌≡◌, ◌++◌, map, take}
use Rattle.text_core.specs.declared.change.TextEdit.{TextEdit}
use Rattle.text_core.proofs.disjoint.push_ranges.Given as goal

abbrev pub invariant-loop-edit : goal.invariant-loop-edit
invariant-loop-edit l = l.ranges.items ≡ l.fn.ranges.items ++ map (λ (e : TextEdit). e.range) (take l.edit-index l.edits)
