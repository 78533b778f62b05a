use Rattle.std.proofs.Common.{ap, subst}
use Rattle.session_port.specs.Honest.{IsHonest}
use Rattle.host_fakes.proofs.Scripts.{honest_next}
use Rattle.host_fakes.proofs.script_host.ScriptHostHost.next.Goals as goal

pub returns-clause-honest : goal.returns-clause-honest
returns-clause-honest g c =
    λ _. subst (λ out. IsHonest g.A.Analysis.answer out c.in_ok-event.event) (ap (λ h. h.out) c.self.view_is)
    (honest_next g.A.Analysis.answer c.self.inside.jobs.out c.self.inside.steps c.in_ok-event.event c.in_ok-event.ensures.gift)
