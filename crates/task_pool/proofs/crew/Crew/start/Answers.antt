use Rattle.std.proofs.Common.{◌≡◌, ◌≤◌, Some, rules, arith, sym, ap, subst, ◌∙◌}
use Rattle.std.specs.Arc.{arc_value}
use Rattle.std.specs.FinMap as map
use Rattle.atomic_revision.specs.declared.atomic_revision.AtomicRevision.{AtomicRevision}
use Rattle.inbox.specs.Counts.{counted}
use Rattle.inbox.specs.Given.{HasTaken}
use Rattle.inbox.specs.Posting.{bytes_of}
use Rattle.inbox.specs.declared.entry.Knows.{Knows}
use Rattle.inbox.specs.declared.queue.Inbox.{Inbox}
use Rattle.task_pool.specs.Employs.{AreEmployed}
use Rattle.task_pool.specs.Reading.{IsReader}
use Rattle.task_pool.proofs.Crews.{hires}
use Rattle.task_pool.proofs.crew.Crew.start.Goals as goal

pub invariant_of-self-2 : goal.invariant_of-self-2
invariant_of-self-2 g c =
    let inside = c.self.inside in
    let kept = c.self.invariant in
    let call = c.hire.ensures in
    let answer = g.A.Analysis.answer in
    let queue = ap (λ i. (arc_value {X = Inbox} i).queue) (sym call.inbox.1) in
    let word = ap (λ i. (arc_value {X = AtomicRevision} i).table.shared.table_id) (sym call.word.0) in
    let there : map.get inside.jobs.out c.args.number ≡ Some c.in-Some.job.now = search rules in
    let low : c.args.number ≤ inside.jobs.last_job = omega (arith, c.if-number-self.false) in (
      subst HasTaken (sym call.inbox.0) kept.0,
      subst (λ q. IsReader q inside.reader) queue kept.1,
      kept.2 ∙ ap (λ (w : Knows). counted (bytes_of w.taken)) (sym call.inbox.0),
      subst (λ q. AreEmployed answer q (arc_value c.hire.new.word.word).table.shared.table_id inside.jobs.out inside.jobs.last_job c.hire.new.running) queue
          (subst (λ t. AreEmployed answer (arc_value inside.inbox.inbox).queue t inside.jobs.out inside.jobs.last_job c.hire.new.running) word
          (hires answer (arc_value inside.inbox.inbox).queue (arc_value inside.word.word).table.shared.table_id c.hire.result inside.jobs.out inside.jobs.last_job c.args.number
          c.in-Some.job.now inside.running c.hire.new.running call.ok call.err there kept.3 low)),
    )
