-- Messages that fit a job out, and those that fit none.
use Rattle.std.proofs.Common.{◌≡◌, ℕ, Bool, true, false, refl, sym, ap, ◌∙◌}
use Rattle.std.specs.Prelude.{Option, None, Some, is_some, option_and_then, if◌then◌else◌}
use Rattle.std.specs.FinMap as map
use Rattle.session_port.specs.Jobs.{Jobs, final_of, fits_job, if_fits_job, fitting_job, jobs_after, without_fitting}
use Rattle.session_port.specs.declared.event.TaskBody.{TaskBody}
use Rattle.session_port.specs.declared.event.TaskMsg.{TaskMsg}
use Rattle.session_port.specs.declared.job.Job.{Job}
use Rattle.session_port.specs.declared.job.JobResult.{JobResult}
use Rattle.desk_laws.proofs.Slots.{still-out}

-- a message that fits no job leaves the jobs out as they are
pub after_message-none : (message : TaskMsg) (out : Jobs) → fitting_job message out ≡ None → jobs_after message out ≡ out
after_message-none message out none = ap (λ o. without_fitting o message out) none

-- what fits is out
pub fit-out : (body : TaskBody) (o : Option Job) (job : Job) → option_and_then (if_fits_job body) o ≡ Some job → o ≡ Some job
fit-out body None job is = absurd cc
fit-out body (Some found) job is = by_test (fits_job found body) is
  where
    by_test : (b : Bool) → (if b then Some found else None) ≡ Some job → Some found ≡ Some job
    by_test true is = is
    by_test false is = absurd cc

-- and it fits that job
pub fit-fits : (body : TaskBody) (o : Option Job) (job : Job) → option_and_then (if_fits_job body) o ≡ Some job → fits_job job body ≡ true
fit-fits body None job is = absurd cc
fit-fits body (Some found) job is = by_test (fits_job found body) refl is
  where
    by_test : (b : Bool) → fits_job found body ≡ b → (if b then Some found else None) ≡ Some job → fits_job job body ≡ true
    by_test true fit is = let same : found ≡ job = cc in ap (λ (j : Job). fits_job j body) (sym same) ∙ fit
    by_test false fit is = absurd cc

-- a message of a job that goes on leaves the jobs out as they are
pub after_message-going : (message : TaskMsg) (out : Jobs) → final_of message.body ≡ None → jobs_after message out ≡ out
after_message-going message out goes = by_job (fitting_job message out)
  where
    by_job : (o : Option Job) → without_fitting o message out ≡ out
    by_job None = refl
    by_job (Some job) = ap (λ (end : Option JobResult). if is_some end then map.remove out message.job else out) goes

-- the end of a job takes it off
pub after_message-some : (message : TaskMsg) (out : Jobs) (job : Job) (result : JobResult) → final_of message.body ≡ Some result
    → fitting_job message out ≡ Some job
    → (jobs_after message out ≡ map.remove out message.job) × (map.get out message.job ≡ Some job)
after_message-some message out job result ends is = (
  ap (λ o. without_fitting o message out) is ∙ ap (λ (end : Option JobResult). if is_some end then map.remove out message.job else out) ends,
  fit-out message.body (map.get out message.job) job is,
)

-- a job out behind a message was out before it
pub out-before : (message : TaskMsg) (out : Jobs) (n : ℕ) (job : Job) → map.get (jobs_after message out) n ≡ Some job → map.get out n ≡ Some job
out-before message out n job there = by_job (fitting_job message out) there
  where
    by_end : (b : Bool) → map.get (if b then map.remove out message.job else out) n ≡ Some job → map.get out n ≡ Some job
    by_end true there = still-out message.job n out job there
    by_end false there = there

    by_job : (o : Option Job) → map.get (without_fitting o message out) n ≡ Some job → map.get out n ≡ Some job
    by_job None there = there
    by_job (Some found) there = by_end (is_some (final_of message.body)) there
