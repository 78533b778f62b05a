-- What is known of a worker that was started.
use Rattle.std.specs.Prelude.{◌≡◌}
use Rattle.std.specs.Arc.{arc_value}
use Rattle.std.specs.declared.alloc.Global.{Global}
use Rattle.crossbeam_queue.specs.SegTies.{SegId}
use Rattle.analysis_host.specs.Answers.{OutcomeSpec}
use Rattle.analysis_host.specs.SnapshotData.{SnapshotData}
use Rattle.analysis_host.specs.declared.ask.Ask.{Ask}
use Rattle.atomic_revision.specs.declared.revision_cancel.RevisionCancel.{RevisionCancel}
use Rattle.session_port.specs.declared.job.Job.{Job}
use Rattle.task_pool.specs.Ends.{end_of}
use Rattle.task_pool.specs.Kept.{IsReport}
use Rattle.task_pool.specs.declared.assignment.Assignment.{Assignment}
use Rattle.task_pool.specs.declared.worker.Worker.{Worker}
use Rattle.task_pool.specs.declared.worker.Worker.TheVariants.{Running, Ended}

-- it promises a result of this job, or has it
abbrev pub IsWorkerOf : (SnapshotData → Ask → OutcomeSpec) → Job → RevisionCancel → SegId Global → Worker → Type 0
IsWorkerOf answer job cancel queue (Running handle) =
    (handle.promise.expected.value.me.0.end ≡ end_of answer job) × (handle.promise.job.value ≡ job)
    × (handle.promise.cancel.value ≡ cancel) × ((arc_value handle.promise.inbox.value).queue ≡ queue)
IsWorkerOf answer job cancel queue (Ended report) = IsReport (end_of answer job) job cancel queue report

-- it was started for this
abbrev pub IsStarted : (SnapshotData → Ask → OutcomeSpec) → Assignment → Worker → Type 0
IsStarted answer assignment worker = IsWorkerOf answer assignment.job assignment.cancel (arc_value assignment.end.inbox).queue worker
