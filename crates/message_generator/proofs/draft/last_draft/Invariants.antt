use Rattle.std.proofs.Common.{◌≡◌}
use Rattle.message_generator.specs.Drafts.{edited_times, first_draft}
use Rattle.message_generator.proofs.draft.last_draft.Given as goal

abbrev pub invariant-loop-edit : goal.invariant-loop-edit
invariant-loop-edit l = l.draft ≡ edited_times l._edit (first_draft l.fn.place l.fn.state)
