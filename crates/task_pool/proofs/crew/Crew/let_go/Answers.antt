use Rattle.std.proofs.Common.{sym, ap, subst, ◌∙◌}
use Rattle.std.specs.Arc.{arc_value}
use Rattle.inline_host.specs.declared.numbered_jobs.NumberedJobs.{NumberedJobs}
use Rattle.session_port.specs.Events.{batch_in}
use Rattle.session_port.specs.Record.{after_event}
use Rattle.task_pool.specs.Crews.{without_jobs}
use Rattle.task_pool.specs.Employs.{AreEmployed}
use Rattle.task_pool.proofs.Crews.{go_all}
use Rattle.task_pool.proofs.crew.Crew.let_go.Goals as goal

pub invariant_of-self : goal.invariant_of-self
invariant_of-self g c =
    let inside = c.self.inside in
    let kept = c.self.invariant in
    let queue = (arc_value inside.inbox.inbox).queue in
    let word = (arc_value inside.word.word).table.shared.table_id in (
      kept.0,
      kept.1,
      kept.2,
      subst (λ (j : NumberedJobs). AreEmployed g.A.Analysis.answer queue word j.out j.last_job c.remove_jobs.new.running) (sym c.let_go.ensures)
          (subst (λ r. AreEmployed g.A.Analysis.answer queue word (after_event c.args.event.now inside.jobs.out) inside.jobs.last_job r)
          (sym (c.remove_jobs.ensures ∙ ap (λ m. without_jobs m inside.running) c.messages_of.ensures))
          (go_all g.A.Analysis.answer queue word (batch_in c.args.event.now) inside.jobs.out inside.jobs.last_job inside.running kept.3)),
    )
