use Rattle.trust_laws.proofs.Trusted.{run-trusted}
use Rattle.trust_laws.proofs.trust.runs_show_the_present.Goals as goal

pub returns : goal.returns
returns c = run-trusted (Unit {0})
