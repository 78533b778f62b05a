use Rattle.task_pool.proofs.Honest.{honest}
use Rattle.task_pool.proofs.host.ThreadedHostHost.next.Goals as goal

pub returns-clause-honest : goal.returns-clause-honest
returns-clause-honest g c = λ _. honest g.A.Analysis.answer c.args.self.now c.in_ok-event.event c.in_ok-event.ensures.event.0
