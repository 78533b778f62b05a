use Rattle.std.proofs.Common.{◌≡◌}
use Rattle.small_analysis.specs.Findings.{bracket_said, said_before}
use Rattle.small_analysis.proofs.findings.syntax_in.Given as goal

abbrev pub invariant-loop-place : goal.invariant-loop-place
invariant-loop-place l = l.list ≡ said_before (bracket_said l.encoding l.index) l.place
