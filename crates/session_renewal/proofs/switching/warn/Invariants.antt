use Rattle.std.proofs.Common.{◌≡◌}
use Rattle.std.specs.Vec.Iter.{into_iter_items}
use Rattle.session_model.specs.Machine.{warned}
use Rattle.session_model.specs.State.{State}
use Rattle.session_renewal.proofs.switching.warn.Given as goal

abbrev pub invariant-loop-message : goal.invariant-loop-message
invariant-loop-message l =
    (state : State) → warned (into_iter_items l.message-iterator) (record { state = state; out = l.out }) ≡ warned
    l.fn.texts (record { state = state; out = l.initial.out })
