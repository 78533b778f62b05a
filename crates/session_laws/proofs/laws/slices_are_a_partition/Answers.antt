use Rattle.session_laws.proofs.Slicing.{slices-few, slices-join}
use Rattle.session_laws.proofs.laws.slices_are_a_partition.Goals as goal

pub returns-clause-joined : goal.returns-clause-joined
returns-clause-joined c = slices-join

pub returns-clause-few : goal.returns-clause-few
returns-clause-few c = slices-few
