use Rattle.std.proofs.Common.{◌≡◌}
use Rattle.std.specs.Vec.Iter.{into_iter_items}
use Rattle.session_model.specs.Machine.{tellings_told}
use Rattle.session_activities.proofs.telling.tell_all.Given as goal

abbrev pub invariant-loop-telling : goal.invariant-loop-telling
invariant-loop-telling l =
    (tellings_told (into_iter_items l.telling-iterator) (record { state = l.store; out = l.out }) ≡ tellings_told
    l.fn.tellings (record { state = l.initial.store; out = l.initial.out })) × (l.store.desk ≡ l.initial.store.desk)
