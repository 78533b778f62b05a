-- What a host knows of its workers.
use Rattle.std.specs.Prelude.{◌≡◌, ◌≤◌, ℕ, true}
use Rattle.std.specs.FinMap as map
use Rattle.std.specs.Ordering.{nat_cmp}
use Rattle.std.specs.declared.alloc.Global.{Global}
use Rattle.crossbeam_queue.specs.SegTies.{SegId}
use Rattle.atomic_table.specs.Seated.{TableId}
use Rattle.analysis_host.specs.Answers.{OutcomeSpec}
use Rattle.analysis_host.specs.SnapshotData.{SnapshotData}
use Rattle.analysis_host.specs.declared.ask.Ask.{Ask}
use Rattle.session_port.specs.Honest.{IsResultOf}
use Rattle.session_port.specs.Jobs.{Jobs, fits_kind}
use Rattle.session_port.specs.Runs.{IfCancelled}
use Rattle.session_port.specs.declared.job.Job.{Job}
use Rattle.session_port.specs.declared.job.JobResult.{JobResult}
use Rattle.task_pool.specs.Running.{AreRunning}
use Rattle.task_pool.specs.Starts.{IsWorkerOf}
use Rattle.task_pool.specs.declared.employed.Employed.{Employed}

-- the worker was started for this job, with a seat to this word
pub record IsEmployed (answer : SnapshotData → Ask → OutcomeSpec) (queue : SegId Global) (word : TableId) (job : Job) (e : Employed) : Type 0 where
  pub job_is : e.job.value ≡ job
  pub started : IsWorkerOf answer job e.cancel.value queue e.worker
  pub seated : e.cancel.value.seat.table_id ≡ word

-- the worker was started for the job that it keeps
abbrev pub IsAtWork : (SnapshotData → Ask → OutcomeSpec) → SegId Global → TableId → Employed → Type 0
IsAtWork answer queue word e = IsEmployed answer queue word e.job.value e

abbrev pub job_kept : Employed → Job
job_kept e = e.job.value

-- each worker that runs was started for the job out with its number, and no number is above the last that was handed over
abbrev pub AreEmployed : (SnapshotData → Ask → OutcomeSpec) → SegId Global → TableId → Jobs → ℕ → map.FinMap nat_cmp Employed → Type 0
AreEmployed answer queue word out last_job running = AreRunning job_kept (IsAtWork answer queue word) out last_job running

-- a worker that was started for this job is kept by this number
abbrev pub Hires : (SnapshotData → Ask → OutcomeSpec) → SegId Global → TableId → ℕ → Job → map.FinMap nat_cmp Employed → map.FinMap nat_cmp Employed → Type 0
Hires answer queue word number job before now = (e : Employed) × IsEmployed answer queue word job e × (now ≡ map.insert before number e)

-- a result of this job, of its kind. A revision that it saw is not above this one
pub record EndsAs (answer : SnapshotData → Ask → OutcomeSpec) (revision : ℕ) (job : Job) (result : JobResult) : Type 0 where
  pub is : IsResultOf answer job result
  pub fits : fits_kind job.kind result ≡ true
  pub saw : IfCancelled result (λ saw. saw ≤ revision)
