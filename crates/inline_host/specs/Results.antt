-- The jobs that a host holds, and their results.
use Rattle.std.specs.Prelude.{◌≡◌, ℕ, true, false, length}
use Rattle.analysis_host.specs.Answers.{OutcomeSpec}
use Rattle.analysis_host.specs.SnapshotData.{SnapshotData}
use Rattle.analysis_host.specs.declared.ask.Ask.{Ask}
use Rattle.session_port.specs.Jobs.{Jobs, final_of, fits_job}
use Rattle.session_port.specs.Kinds.{asks_analysis}
use Rattle.session_port.specs.Honest.{IsResultOf}
use Rattle.session_port.specs.Runs.{IsFinal, IsUncancelled}
use Rattle.session_port.specs.SmallProject.{IsSmall}
use Rattle.session_port.specs.declared.event.TaskMsg.{TaskMsg}
use Rattle.session_port.specs.declared.job.Job.{Job}

-- the jobs out, and the number of the last one that came
pub record JobsData : Type 0 where
  pub out : Jobs
  pub last_job : ℕ

-- a message of a job of the host's own says what it comes to for a project of which nothing is known but where it lies
abbrev pub IsOfProject : Job → TaskMsg → Type 0
IsOfProject job message = asks_analysis job.kind ≡ false
    → IsFinal (final_of message.body) (IsSmall job.kind (length job.snapshot.workspaces))

-- a message with a result of that job, of its kind, which nothing stopped, and whose JSON is plain
pub record Finishes (answer : SnapshotData → Ask → OutcomeSpec) (job : Job) (message : TaskMsg) : Type 0 where
  pub number : message.job ≡ job.number
  pub result : IsFinal (final_of message.body) (IsResultOf answer job)
  pub uncancelled : IsFinal (final_of message.body) IsUncancelled
  pub fits : fits_job job message.body ≡ true
  pub project : IsOfProject job message
