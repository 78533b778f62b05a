use Rattle.std.proofs.Common.{subst}
use Rattle.inbox.specs.Given.{BeginsWith}
use Rattle.inbox.proofs.Prefixes.{taken_prefix}
use Rattle.task_pool.specs.Crews.{CrewData}
use Rattle.task_pool.proofs.crew.Crew.begins.Goals as goal

pub returns : goal.returns
returns g c = subst (λ (d : CrewData). BeginsWith d.held d.taken) c.self.view_is (taken_prefix c.self.inside.inbox.pass.me.view.client c.self.invariant.0)
