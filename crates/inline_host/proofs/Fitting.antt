-- Messages that fit a job out, and the ends among them.
use Rattle.std.proofs.Common.{◌≡◌, ℕ, true, refl, ap, ◌∙◌}
use Rattle.std.specs.Prelude.{Option, None, Some, is_some, IfSome, option_and_then, if◌then◌else◌}
use Rattle.std.specs.FinMap as map
use Rattle.analysis_host.specs.Answers.{OutcomeSpec}
use Rattle.analysis_host.specs.SnapshotData.{SnapshotData}
use Rattle.analysis_host.specs.declared.ask.Ask.{Ask}
use Rattle.session_port.specs.Honest.{IsHonestEnd, IsResultOf}
use Rattle.session_port.specs.Jobs.{Jobs, final_of, fits_job, if_fits_job, without_fitting, jobs_after}
use Rattle.session_port.specs.Runs.{IsFinal}
use Rattle.session_port.specs.declared.event.TaskMsg.{TaskMsg}
use Rattle.session_port.specs.declared.job.Job.{Job}
use Rattle.session_port.specs.declared.job.JobResult.{JobResult}

-- a fact of an end shows that there is one
pub is_some-final : (end : Option JobResult) (P : JobResult → Type 0) → IsFinal end P → is_some end ≡ true
is_some-final None P h = absurd h
is_some-final (Some result) P h = refl

-- an end that fits takes its job off
pub after_fitting : (message : TaskMsg) (out : Jobs) (job : Job) → map.get out message.job ≡ Some job → fits_job job message.body ≡ true
    → is_some (final_of message.body) ≡ true → jobs_after message out ≡ map.remove out message.job
after_fitting message out job is fit ends =
    ap (λ found. without_fitting (option_and_then (if_fits_job message.body) found) message out) is
    ∙ ap (λ b. without_fitting (if b then Some job else None) message out) fit
    ∙ ap (λ b. if b then map.remove out message.job else out) ends

-- an end that is a job's, which is out, is honest
pub honest_end : (answer : SnapshotData → Ask → OutcomeSpec) (out : Jobs) (number : ℕ) (job : Job) (end : Option JobResult)
    → map.get out number ≡ Some job → IsFinal end (IsResultOf answer job) → IfSome end (IsHonestEnd answer out number)
honest_end answer out number job None there is = absurd is
honest_end answer out number job (Some result) there is = record { job = job; is_out = there; is_result = is }
