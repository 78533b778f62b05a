use Rattle.std.proofs.Common.{arith, ◌∙◌}
use Rattle.atomic_revision.proofs.Moves.{joins, checks}
use Rattle.atomic_revision.proofs.atomic_revision.AtomicRevision.join.Goals as goal

pub join_seat-requires : goal.join_seat-requires
join_seat-requires c =
    let one = c.args.self.now.one_word in
    (c.requires.writer.0.0, c.requires.other.0.0, c.requires.other.0.1, omega arith, joins _ _ _ _ c.requires.other.1)

pub load-requires : goal.load-requires
load-requires c =
    let one = c.args.self.now.one_word in
    (c.join_seat.ensures.0 ∙ c.requires.writer.0.0, omega arith, checks _ _ _)
