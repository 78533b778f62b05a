use Rattle.diagnostics_laws.proofs.Standing.{runs-store}
use Rattle.diagnostics_laws.proofs.shown.what_a_batch_brought_stays_stored.Goals as goal

pub returns : goal.returns
returns c = runs-store
