use Rattle.std.proofs.Common.{◌≡◌}
use Rattle.small_analysis.specs.Defined.{defined_before}
use Rattle.small_analysis.specs.Findings.{name_said, said_before}
use Rattle.small_analysis.proofs.findings.semantic_in.Given as goal

abbrev pub invariant-loop-place : goal.invariant-loop-place
invariant-loop-place l = (l.list ≡ said_before (name_said l.encoding l.index) l.place) × (l.names ≡ defined_before l.index l.place)
