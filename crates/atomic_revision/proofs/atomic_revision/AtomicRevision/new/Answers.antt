use Rattle.atomic_revision.proofs.Moves.{begins}
use Rattle.atomic_revision.proofs.atomic_revision.AtomicRevision.new.Goals as goal

pub of_words-requires : goal.of_words-requires
of_words-requires c = begins
