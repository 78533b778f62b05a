use Rattle.reload.proofs.NameLaws.{alike_equiv}
use Rattle.reload.proofs.laws.alike_names_are_equivalent.Goals as goal

pub returns : goal.returns
returns c = alike_equiv
