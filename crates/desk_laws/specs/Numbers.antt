-- The numbers of jobs.
use Rattle.std.specs.Prelude.{◌≡◌, ℕ, ◌+◌, List, [], ◌∷◌}
use Rattle.session_port.specs.declared.job.Job.{Job}

-- jobs with the next numbers, after so many that were given
abbrev pub AreNumbered : ℕ → List Job → Type 0
AreNumbered last_job [] = Unit {0}
AreNumbered last_job (job ∷ jobs) = (job.number ≡ last_job + 1) × AreNumbered (last_job + 1) jobs
