use Rattle.std.proofs.Common.{sym, ap, subst, ◌∙◌}
use Rattle.std.specs.Arc.{arc_value}
use Rattle.inbox.specs.Counts.{counted}
use Rattle.inbox.specs.Given.{HasTaken}
use Rattle.inbox.specs.Posting.{bytes_of}
use Rattle.inbox.specs.declared.entry.Knows.{Knows}
use Rattle.inbox.specs.declared.queue.Inbox.{Inbox}
use Rattle.task_pool.specs.Crews.{CrewData}
use Rattle.task_pool.specs.Employs.{AreEmployed}
use Rattle.task_pool.specs.Reading.{IsReader}
use Rattle.task_pool.proofs.Crews.{counted_take, left, shows}
use Rattle.task_pool.proofs.crew.Crew.wait.Goals as goal

pub invariant_of-self : goal.invariant_of-self
invariant_of-self g c =
    let inside = c.self.inside in
    let kept = c.self.invariant in
    let taken = c.wait-entry.ensures.taken in
    let same = ap (λ i. (arc_value {X = Inbox} i).queue) (sym c.wait-entry.ensures.same) in (
      subst HasTaken (sym taken.0) (kept.0.0, taken.1),
      subst (λ q. IsReader q inside.reader) same kept.1,
      counted_take inside.inbox.pass.me.view.client.taken c.wait-entry.result inside.taken c.len.result c.saturating_add-self-inside.result kept.2 c.len.ensures c.saturating_add-self-inside.ensures
          ∙ ap (λ (w : Knows). counted (bytes_of w.taken)) (sym taken.0),
      subst (λ q. AreEmployed g.A.Analysis.answer q (arc_value inside.word.word).table.shared.table_id inside.jobs.out inside.jobs.last_job inside.running) same kept.3,
    )

pub returns-clause-shows : goal.returns-clause-shows
returns-clause-shows g c =
    shows c.self.inside.inbox.pass.me.view.client c.wait-entry.result c.args.self.now c.self.invariant.0 c.wait-entry.ensures.taken.1
    (ap (λ (d : CrewData). d.held) (sym c.self.view_is)) (ap (λ (d : CrewData). d.taken) (sym c.self.view_is))

pub returns-clause-after : goal.returns-clause-after
returns-clause-after g c =
    let w = c.wait-entry.new.self.pass.me.view.client in
    ap (λ (d : CrewData). record d { held = w.held; taken = bytes_of w.taken }) c.self.view_is
    ∙ left c.self.inside.inbox.pass.me.view.client w c.wait-entry.result c.args.self.now c.wait-entry.ensures.taken.0
    (ap (λ (d : CrewData). d.held) (sym c.self.view_is)) (ap (λ (d : CrewData). d.taken) (sym c.self.view_is))
