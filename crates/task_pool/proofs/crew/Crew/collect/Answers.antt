use Rattle.std.proofs.Common.{sym, ap, subst, ◌∙◌}
use Rattle.std.specs.Prelude.{IfSome}
use Rattle.std.specs.Arc.{arc_value}
use Rattle.atomic_revision.specs.declared.atomic_revision.AtomicRevision.{AtomicRevision}
use Rattle.inbox.specs.Counts.{counted}
use Rattle.inbox.specs.Given.{HasTaken}
use Rattle.inbox.specs.Posting.{bytes_of}
use Rattle.inbox.specs.declared.entry.Knows.{Knows}
use Rattle.inbox.specs.declared.queue.Inbox.{Inbox}
use Rattle.task_pool.specs.Crews.{CrewData, IsEnd}
use Rattle.task_pool.specs.Employs.{AreEmployed, IsAtWork, job_kept}
use Rattle.task_pool.specs.Reading.{IsReader}
use Rattle.task_pool.proofs.Crews.{are_ends}
use Rattle.task_pool.proofs.Running.{joins}
use Rattle.task_pool.proofs.crew.Crew.collect.Goals as goal

pub invariant_of-self : goal.invariant_of-self
invariant_of-self g c =
    let inside = c.self.inside in
    let kept = c.self.invariant in
    let call = c.dismiss.ensures in
    let answer = g.A.Analysis.answer in
    let first = (arc_value inside.inbox.inbox).queue in
    let second = (arc_value inside.word.word).table.shared.table_id in
    let queue = ap (λ i. (arc_value {X = Inbox} i).queue) (sym call.inbox.1) in
    let word = ap (λ i. (arc_value {X = AtomicRevision} i).table.shared.table_id) (sym call.word.0) in (
      subst HasTaken (sym call.inbox.0) kept.0,
      subst (λ q. IsReader q inside.reader) queue kept.1,
      kept.2 ∙ ap (λ (w : Knows). counted (bytes_of w.taken)) (sym call.inbox.0),
      subst (λ q. AreEmployed answer q (arc_value c.dismiss.new.word.word).table.shared.table_id inside.jobs.out inside.jobs.last_job c.dismiss.new.running) queue
          (subst (λ t. AreEmployed answer first t inside.jobs.out inside.jobs.last_job c.dismiss.new.running) word
          (subst (λ r. AreEmployed answer first second inside.jobs.out inside.jobs.last_job r) (sym call.running)
          (joins job_kept (IsAtWork answer first second) inside.jobs.out inside.jobs.last_job inside.running c.args.number kept.3))),
    )

pub returns-clause-end : goal.returns-clause-end
returns-clause-end g c =
    let inside = c.self.inside in
    subst (λ (d : CrewData). IfSome c.dismiss.result (λ r. IsEnd g.A.Analysis.answer d.out d.revision c.args.number r.1)) c.self.view_is
    (are_ends g.A.Analysis.answer (arc_value inside.inbox.inbox).queue (arc_value inside.word.word).table.shared.table_id inside.jobs.out inside.jobs.last_job inside.word.number
    c.args.number inside.running c.dismiss.result c.self.invariant.3 c.dismiss.ensures.end)
