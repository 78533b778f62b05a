use Rattle.diagnostics_laws.proofs.Standing.{generations-few, generations-known, generations-rise}
use Rattle.diagnostics_laws.proofs.shown.generations_are_those_of_batches.Goals as goal

pub returns : goal.returns
returns c = record { known = generations-known; few = generations-few; rise = generations-rise }
