use Rattle.std.proofs.Common.{true, map, string_bytes}
use Rattle.docs_vfs.specs.Resolve.{walk}
use Rattle.docs_vfs.specs.Fronts.{whole, Reaches}
use Rattle.docs_vfs.proofs.relative.take_segments.Given as goal

abbrev pub invariant-loop-segment : goal.invariant-loop-segment
invariant-loop-segment l = Reaches true (walk l.empty (whole (string_bytes l.fn.text)) (map (λ x. x.now) l.yielded)) (string_bytes l.text)
