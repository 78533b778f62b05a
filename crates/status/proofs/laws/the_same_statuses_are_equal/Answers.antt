use Rattle.status.proofs.Same.{status_told}
use Rattle.status.proofs.laws.the_same_statuses_are_equal.Goals as goal

pub returns : goal.returns
returns c = status_told
