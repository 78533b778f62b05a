use Rattle.std.proofs.Common.{◌≡◌, ◌++◌}
use Rattle.std.specs.List.{flat_map}
use Rattle.std.specs.Vec.Iter.{into_iter_items}
use Rattle.session_port.specs.Results.{roots_answered}
use Rattle.session_port.proofs.joining.all_roots.Given as goal

abbrev pub invariant-loop-answer : goal.invariant-loop-answer
invariant-loop-answer l = l.roots ++ flat_map roots_answered (into_iter_items l.answer-iterator) ≡ flat_map roots_answered l.fn.found
