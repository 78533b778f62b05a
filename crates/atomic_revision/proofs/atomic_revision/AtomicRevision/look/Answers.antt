use Rattle.std.proofs.Common.{arith}
use Rattle.atomic_revision.proofs.Moves.{looks}
use Rattle.atomic_revision.proofs.atomic_revision.AtomicRevision.look.Goals as goal

pub load-requires : goal.load-requires
load-requires c =
    let one = c.args.self.now.one_word in
    (c.requires.0.0, omega arith, looks _ _ _)
