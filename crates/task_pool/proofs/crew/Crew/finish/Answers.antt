use Rattle.std.proofs.Common.{subst}
use Rattle.task_pool.specs.Crews.{CrewData}
use Rattle.task_pool.specs.Finishing.{IsFinished}
use Rattle.task_pool.specs.declared.crew.Finished.{Finished}
use Rattle.task_pool.proofs.Crews.{under}
use Rattle.task_pool.proofs.Finishing.{finishes}
use Rattle.task_pool.proofs.crew.Crew.finish.Goals as goal

pub returns-clause-finished : goal.returns-clause-finished
returns-clause-finished g c =
    let finished : Finished = record { posted = c.join-out.result.posted; taken = c.self.inside.taken; ended = c.join-out.result.ended } in
    subst (λ (d : CrewData). IsFinished d.held d.taken finished) c.self.view_is
    (finishes c.self.inside.inbox.pass.me.view.client c.join-out.result.end.pass.me.view.client.posted finished c.settle.ensures.begins
    c.settle.ensures.posting c.join-out.ensures.counts c.self.invariant.2 c.join-out.ensures.ended)

pub returns-clause-order : goal.returns-clause-order
returns-clause-order g c =
    under c.self.inside.inbox.pass.me.view.client.taken c.join-out.result.end.pass.me.view.client.posted c.self.inside.taken c.join-out.result.posted c.settle.ensures.begins c.self.invariant.2
    c.join-out.ensures.counts
