use Rattle.session_laws.proofs.Exhausting.{step-needs}
use Rattle.session_laws.proofs.laws.refused_turns_need_more.Goals as goal

pub returns : goal.returns
returns c = step-needs
