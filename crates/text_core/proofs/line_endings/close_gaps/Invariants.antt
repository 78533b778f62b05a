use Rattle.std.proofs.Common.{◌≡◌, ◌≤◌, ◌<◌, ◌-◌, ◌++◌, true, length, take, drop}
use Rattle.std.specs.Prelude.{is_some}
use Rattle.text_core.specs.LineEnds.{normalized, crlf_place}
use Rattle.text_core.proofs.line_endings.close_gaps.Given as goal

abbrev pub invariant-loop-gap : goal.invariant-loop-gap
invariant-loop-gap l = record {
  order : l.write ≤ l.read;
  within : l.read ≤ length l.bytes.items;
  rest : drop l.read l.bytes.items ≡ drop l.read l.initial.bytes.items;
  done : take l.write l.bytes.items ++ normalized (drop l.read l.initial.bytes.items) ≡ normalized l.initial.bytes.items;
  seen : 0 < l.read → is_some (crlf_place l.initial.bytes.items) ≡ true;
  none : l.read ≡ 0 → l.bytes.items ≡ l.initial.bytes.items;
}

abbrev pub decreases-loop-gap : goal.decreases-loop-gap
decreases-loop-gap l = length l.bytes.items - l.read
