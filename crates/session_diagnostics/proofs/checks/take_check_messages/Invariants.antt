use Rattle.std.proofs.Common.{◌≡◌}
use Rattle.std.specs.Vec.Iter.{into_iter_items}
use Rattle.session_model.specs.Machine.{checks_told}
use Rattle.session_diagnostics.proofs.checks.take_check_messages.Given as goal

abbrev pub invariant-loop-message : goal.invariant-loop-message
invariant-loop-message l =
    checks_told (into_iter_items l.message-iterator) (record { state = l.store; out = l.out }) ≡ checks_told
    l.fn.messages (record { state = l.initial.store; out = l.initial.out })
