use Rattle.message_generator.proofs.Streams.{document_given}
use Rattle.message_generator.proofs.generator.Generator.next_document.Goals as goal

pub returns-clause-frames : goal.returns-clause-frames
returns-clause-frames c = document_given c.args.self.now.ended c.args.self.now.left c.args.self.now.place c.args.self.now.state c.in_ok-state.state
    c.write_document.new.into.items c.from_vec.result c.requires.going c.requires.left c.in_ok-state.ensures.state (rw c.in_ok-frames.ensures.items at c.in_ok-state.ensures.frames)
    c.from_vec.ensures
