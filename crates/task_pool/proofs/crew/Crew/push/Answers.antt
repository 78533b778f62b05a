use Rattle.std.proofs.Common.{◌<◌, sym, subst}
use Rattle.std.specs.Arc.{arc_value}
use Rattle.task_pool.proofs.Crews.{put_one}
use Rattle.task_pool.proofs.crew.Crew.push.Goals as goal

pub invariant_of-self : goal.invariant_of-self
invariant_of-self g c =
    let inside = c.self.inside in
    let kept = c.self.invariant in (
      kept.0,
      kept.1,
      kept.2,
      put_one g.A.Analysis.answer (arc_value inside.inbox.inbox).queue (arc_value inside.word.word).table.shared.table_id c.put.result inside.jobs c.put.new.jobs c.args.job inside.running
          c.put.ensures.ok c.put.ensures.err (subst (λ d. d.last_job < c.args.job.number) (sym c.self.view_is) c.requires) kept.3,
    )
