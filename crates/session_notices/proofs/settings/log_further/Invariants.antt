use Rattle.std.proofs.Common.{◌≡◌}
use Rattle.std.specs.Vec.Iter.{into_iter_items}
use Rattle.session_model.specs.Machine.{further_logged}
use Rattle.session_model.specs.State.{State}
use Rattle.session_notices.proofs.settings.log_further.Given as goal

abbrev pub invariant-loop-path : goal.invariant-loop-path
invariant-loop-path l =
    (state : State) → further_logged (into_iter_items l.path-iterator) (record { state = state; out = l.out }) ≡ further_logged
    l.fn.paths (record { state = state; out = l.initial.out })
