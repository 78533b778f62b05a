-- What a worker promises.
use Rattle.std.specs.Prelude.{◌≡◌, ◌<◌, ◌≤◌, true}
use Rattle.std.specs.Arc.{arc_value}
use Rattle.std.specs.declared.alloc.Global.{Global}
use Rattle.crossbeam_queue.specs.SegTies.{SegId}
use Rattle.atomic_revision.specs.declared.revision_cancel.RevisionCancel.{RevisionCancel}
use Rattle.session_port.specs.Jobs.{fits_kind}
use Rattle.session_port.specs.Kinds.{asks_analysis}
use Rattle.session_port.specs.Runs.{IfCancelled, UnlessNoMemory}
use Rattle.session_port.specs.declared.job.Job.{Job}
use Rattle.session_port.specs.declared.job.JobResult.{JobResult}
use Rattle.task_pool.specs.Ends.{IsResultAs}
use Rattle.task_pool.specs.declared.worker.Report.{Report}

-- the result is one of the job, whose questions come to this end, and of its kind; a number that it saw is above the snapshot's
-- revision, and the job's own seat has seen as much; unless memory ran out, a job for which the analysis is asked has looked. The
-- seat and the end are those that were handed over
pub record IsReport (end : JobResult) (job : Job) (cancel : RevisionCancel) (queue : SegId Global) (report : Report) : Type 0 where
  pub is : IsResultAs end job report.result
  pub fits : fits_kind job.kind report.result ≡ true
  pub saw : IfCancelled report.result (λ saw. saw ≤ report.cancel.seat.me.0.number)
  pub polled : asks_analysis job.kind ≡ true → UnlessNoMemory report.result (cancel.seat.me.0.loads < report.cancel.seat.me.0.loads)
  pub seat : report.cancel.seat.table_id ≡ cancel.seat.table_id
  pub inbox : (arc_value report.end.inbox).queue ≡ queue
