use Rattle.std.proofs.Common.{◌≡◌, ◌++◌}
use Rattle.message_generator.specs.Drafts.{edited_times}
use Rattle.message_generator.specs.Messages.{edits, frames_of}
use Rattle.message_generator.proofs.writing.write_edits.Given as goal

abbrev pub invariant-loop-edit : goal.invariant-loop-edit
invariant-loop-edit l = (l.draft ≡ edited_times l.edit l.fn.first)
    × (l.into.items ≡ l.fn.into.items ++ frames_of (edits l.edit l.fn.place l.fn.first))
