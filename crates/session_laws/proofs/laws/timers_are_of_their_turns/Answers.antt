use Rattle.session_laws.proofs.Placed.{timers-in-turn}
use Rattle.session_laws.proofs.laws.timers_are_of_their_turns.Goals as goal

pub returns : goal.returns
returns c = timers-in-turn
