use Rattle.std.proofs.Common.{◌≡◌, ◌≤◌, ◌-◌, length, drop}
use Rattle.text_core.specs.LineEnds.{crlf_place}
use Rattle.text_core.proofs.LineLemmas.{further}
use Rattle.text_core.proofs.line_endings.find_crlf.Given as goal

abbrev pub invariant-loop-gap : goal.invariant-loop-gap
invariant-loop-gap l = record {
  within : l.from ≤ length l.bytes;
  place : crlf_place l.bytes ≡ further l.from (crlf_place (drop l.from l.bytes));
}

abbrev pub decreases-loop-gap : goal.decreases-loop-gap
decreases-loop-gap l = length l.bytes - l.from
