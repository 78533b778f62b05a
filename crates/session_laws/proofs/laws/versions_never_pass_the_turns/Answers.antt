use Rattle.session_laws.proofs.Placed.{versions-in-turn}
use Rattle.session_laws.proofs.laws.versions_never_pass_the_turns.Goals as goal

pub returns : goal.returns
returns c = versions-in-turn
