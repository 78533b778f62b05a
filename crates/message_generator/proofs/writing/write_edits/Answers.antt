use Rattle.std.proofs.Common.{◌+◌, refl, sym, append-nil, arith}
use Rattle.message_generator.specs.Drafts.{IsPlainLine, edited_times}
use Rattle.message_generator.specs.Messages.{edits}
use Rattle.message_generator.proofs.Lines.{edited_times_plain, plain_within}
use Rattle.message_generator.proofs.Streams.{edited_more, edits_more}
use Rattle.message_generator.proofs.writing.write_edits.Goals as goal

pub loop-edit-init : goal.loop-edit-init
unfolding edited_times edits
loop-edit-init c = (refl, sym (append-nil _))

pub write_changed-requires : goal.write_changed-requires
write_changed-requires c =
    let plain : IsPlainLine (16 + c.loop-edit.edit) (edited_times c.loop-edit.edit c.args.first).line = edited_times_plain c.loop-edit.edit 16 c.args.first c.requires in
    let short = plain.short in rw c.loop-edit.invariant.0 (omega arith)

pub edit-requires : goal.edit-requires
edit-requires c = rw c.loop-edit.invariant.0 (plain_within (16 + c.loop-edit.edit) 999 (edited_times c.loop-edit.edit c.args.first).line (omega arith)
    (edited_times_plain c.loop-edit.edit 16 c.args.first c.requires))

pub loop-edit-preserved : goal.loop-edit-preserved
loop-edit-preserved c = (
  edited_more c.loop-edit.edit c.args.first c.loop-edit.draft c.in_ok-draft.draft c.loop-edit.invariant.0 c.in_ok-draft.ensures,
  edits_more c.loop-edit.edit c.args.place c.args.first c.loop-edit.draft c.args.into.now.items c.loop-edit.into.items c.write_changed.new.into.items
      c.loop-edit.invariant.0 c.loop-edit.invariant.1 c.in_ok-write_changed.ensures,
)
