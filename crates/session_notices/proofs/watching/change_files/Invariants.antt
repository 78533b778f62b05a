use Rattle.std.proofs.Common.{◌≡◌}
use Rattle.std.specs.FinMap as map
use Rattle.std.specs.Vec.Iter.{into_iter_items}
use Rattle.session_model.specs.Machine.{files_changed}
use Rattle.session_model.specs.State.{State}
use Rattle.session_notices.proofs.watching.change_files.Given as goal

abbrev pub invariant-loop-url : goal.invariant-loop-url
invariant-loop-url l =
    (state : State) → files_changed l.seen (into_iter_items l.url-iterator) (record { state = state; out = l.out })
    ≡ files_changed map.empty l.fn.urls (record { state = state; out = l.initial.out })
