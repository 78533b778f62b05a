use Rattle.message_generator.proofs.Lines.{first_plain}
use Rattle.message_generator.proofs.Streams.{document_written}
use Rattle.std.proofs.Common.{arith}
use Rattle.message_generator.proofs.writing.write_document.Goals as goal

pub write_edits-requires : goal.write_edits-requires
write_edits-requires c = rw c.in_ok-first.ensures (first_plain c.args.place (omega arith))

pub returns-clause-frames : goal.returns-clause-frames
returns-clause-frames c = document_written c.args.place c.args.state c.in_ok-first.first c.args.into.now.items c.write_opened.new.into.items c.write_edits.new.into.items
    c.write_hovered.new.into.items c.in_ok-first.ensures c.in_ok-write_opened.ensures c.in_ok-last.ensures.frames c.in_ok-write_hovered.ensures
