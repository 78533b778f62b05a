use Rattle.std.proofs.Common.{arith}
use Rattle.atomic_revision.proofs.Moves.{raises}
use Rattle.atomic_revision.proofs.atomic_revision.AtomicRevision.raise.Goals as goal

pub store-requires : goal.store-requires
store-requires c =
    let one = c.args.self.now.one_word in
    (c.requires.seat.0.0, omega arith, raises _ _ _ _ c.requires.seat.1 c.requires.rising)
