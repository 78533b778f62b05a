use Rattle.std.proofs.Common.{◌≡◌}
use Rattle.std.specs.Vec.Iter.{into_iter_items}
use Rattle.session_model.specs.Machine.{all_asked}
use Rattle.session_diagnostics.proofs.batch.hand_over_all.Given as goal

abbrev pub invariant-loop-kind : goal.invariant-loop-kind
invariant-loop-kind l =
    all_asked (into_iter_items l.kind-iterator) (record { state = l.store; out = l.out }) ≡ all_asked
    l.fn.kinds (record { state = l.initial.store; out = l.initial.out })
