use Rattle.std.proofs.Common.{arith}
use Rattle.atomic_revision.proofs.Moves.{splits}
use Rattle.atomic_revision.proofs.atomic_revision.AtomicRevision.split.Goals as goal

pub split_seat-requires : goal.split_seat-requires
split_seat-requires c =
    let one = c.args.self.now.one_word in
    (c.requires.0.0, omega arith, splits _ _ c.requires.1.1)
