use Rattle.std.proofs.Common.{◌+◌, arith}
use Rattle.message_generator.specs.Drafts.{edited_times, first_draft}
use Rattle.message_generator.proofs.Lines.{edited_times_plain, first_plain, plain_within}
use Rattle.message_generator.proofs.Streams.{edited_more}
use Rattle.message_generator.proofs.draft.last_draft.Goals as goal

pub loop-edit-init : goal.loop-edit-init
unfolding edited_times
loop-edit-init c = c.in_ok-draft.ensures

pub edit-requires : goal.edit-requires
edit-requires c = rw c.loop-edit.invariant (plain_within (16 + c.loop-edit._edit) 999 (edited_times c.loop-edit._edit (first_draft c.args.place c.args.state)).line
    (omega arith) (edited_times_plain c.loop-edit._edit 16 (first_draft c.args.place c.args.state) (first_plain c.args.place (omega arith))))

pub loop-edit-preserved : goal.loop-edit-preserved
loop-edit-preserved c = edited_more c.loop-edit._edit (first_draft c.args.place c.args.state) c.loop-edit.draft c.in_ok-draft-2.draft c.loop-edit.invariant c.in_ok-draft-2.ensures
