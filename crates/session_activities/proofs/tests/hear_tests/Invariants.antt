use Rattle.std.proofs.Common.{◌≡◌}
use Rattle.std.specs.Vec.Iter.{into_iter_items}
use Rattle.session_model.specs.Machine.{tests_heard}
use Rattle.session_activities.proofs.tests.hear_tests.Given as goal

abbrev pub invariant-loop-message : goal.invariant-loop-message
invariant-loop-message l =
    tests_heard (into_iter_items l.message-iterator) (record { state = l.store; out = l.out }) ≡ tests_heard
    l.fn.messages (record { state = l.initial.store; out = l.initial.out })
