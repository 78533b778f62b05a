use Rattle.std.proofs.Common.{◌≡◌, ◌++◌}
use Rattle.std.specs.List.{flat_map}
use Rattle.std.specs.Vec.Iter.{into_iter_items}
use Rattle.session_port.specs.Results.{tests_in}
use Rattle.session_port.proofs.joining.all_tests.Given as goal

abbrev pub invariant-loop-answer : goal.invariant-loop-answer
invariant-loop-answer l = l.tests ++ flat_map tests_in (into_iter_items l.answer-iterator) ≡ flat_map tests_in l.fn.found
