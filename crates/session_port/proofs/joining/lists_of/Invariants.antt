use Rattle.std.proofs.Common.{◌≡◌, ◌++◌}
use Rattle.std.specs.Vec.Iter.{into_iter_items}
use Rattle.session_port.specs.Results.{lists_of}
use Rattle.session_port.proofs.joining.lists_of.Given as goal

abbrev pub invariant-loop-answer : goal.invariant-loop-answer
invariant-loop-answer l = l.lists ++ lists_of l.remaining (into_iter_items l.answer-iterator) ≡ lists_of l.files l.fn.found
