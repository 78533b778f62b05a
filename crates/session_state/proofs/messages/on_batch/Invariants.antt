use Rattle.std.proofs.Common.{◌≡◌}
use Rattle.std.specs.Vec.Iter.{into_iter_items}
use Rattle.session_model.specs.Machine.{batched}
use Rattle.session_model.specs.Meaning.{meaning_of}
use Rattle.session_state.proofs.messages.on_batch.Given as goal

abbrev pub invariant-loop-message : goal.invariant-loop-message
invariant-loop-message g l =
    batched (meaning_of g.A.Analysis.decodes g.A.Analysis.answer) (into_iter_items l.message-iterator) (record { state = l.store; out = l.out })
    ≡ batched (meaning_of g.A.Analysis.decodes g.A.Analysis.answer) l.fn.batch (record { state = l.initial.store; out = l.initial.out })
