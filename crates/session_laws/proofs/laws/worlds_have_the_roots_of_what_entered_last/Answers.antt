use Rattle.session_laws.proofs.LetIn.{turns-let-in}
use Rattle.session_laws.proofs.laws.worlds_have_the_roots_of_what_entered_last.Goals as goal

pub returns : goal.returns
returns c = turns-let-in
