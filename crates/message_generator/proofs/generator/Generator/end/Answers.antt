use Rattle.message_generator.proofs.Streams.{exit_given}
use Rattle.message_generator.proofs.generator.Generator.end.Goals as goal

pub returns-clause-frames : goal.returns-clause-frames
returns-clause-frames c = exit_given c.args.self.now.ended c.args.self.now.left c.args.self.now.place c.args.self.now.state c.write_exit.new.into.items
    c.from_vec.result c.requires.going c.requires.left (rw c.new-frames.ensures.items at c.in_ok-write_exit.ensures) c.from_vec.ensures
