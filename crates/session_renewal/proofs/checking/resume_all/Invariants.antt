use Rattle.std.proofs.Common.{◌≡◌}
use Rattle.std.specs.Vec.Iter.{into_iter_items}
use Rattle.session_model.specs.Machine.{all_resumed}
use Rattle.session_renewal.proofs.checking.resume_all.Given as goal

abbrev pub invariant-loop-task : goal.invariant-loop-task
invariant-loop-task l =
    all_resumed (into_iter_items l.task-iterator) (record { state = l.store; out = l.out }) ≡ all_resumed
    l.fn.tasks (record { state = l.initial.store; out = l.initial.out })
