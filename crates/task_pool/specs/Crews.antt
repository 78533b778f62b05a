-- What is known of a host's workers, its reader and its jobs.
use Rattle.std.specs.Prelude.{◌≡◌, ◌≤◌, ℕ, true, List, [], ◌∷◌, ◌++◌, Option, Some}
use Rattle.std.specs.FinMap as map
use Rattle.std.specs.Ordering.{nat_cmp}
use Rattle.analysis_host.specs.Answers.{OutcomeSpec}
use Rattle.analysis_host.specs.SnapshotData.{SnapshotData}
use Rattle.analysis_host.specs.declared.ask.Ask.{Ask}
use Rattle.inbox.specs.Given.{BeginsWith, IsAll}
use Rattle.inbox.specs.declared.entry.Entry.{Entry}
use Rattle.inbox.specs.declared.entry.Entry.TheVariants.{Piece, Ended}
use Rattle.session_port.specs.Honest.{IsResultOf}
use Rattle.session_port.specs.Jobs.{Jobs, fits_kind}
use Rattle.session_port.specs.Runs.{IfCancelled}
use Rattle.session_port.specs.declared.event.TaskMsg.{TaskMsg}
use Rattle.session_port.specs.declared.job.Job.{Job}
use Rattle.session_port.specs.declared.job.JobResult.{JobResult}

pub record CrewData : Type 0 where
  -- the jobs out, by their numbers, and the number of the last one that came
  pub out : Jobs
  pub last_job : ℕ
  -- the bytes that the source held at the start, if it tells, and those that were taken of them
  pub held : Option (List ℕ)
  pub taken : List ℕ
  -- the greatest revision that was ordered
  pub revision : ℕ

-- what an entry of the inbox shows where it is taken
abbrev pub Shows : Entry → CrewData → Type 0
Shows (Piece bytes) c = BeginsWith c.held (c.taken ++ bytes)
Shows Ended c = IsAll c.held c.taken
Shows other c = Unit {0}

abbrev pub after_entry : Entry → CrewData → CrewData
after_entry (Piece bytes) c = record c { taken = c.taken ++ bytes }
after_entry other c = c

-- the result of the job out with this number, of its kind. A revision that it saw was ordered
pub record IsEnd (answer : SnapshotData → Ask → OutcomeSpec) (out : Jobs) (revision number : ℕ) (result : JobResult) : Type 0 where
  pub job : Job
  pub is_out : map.get out number ≡ Some job
  pub is : IsResultOf answer job result
  pub fits : fits_kind job.kind result ≡ true
  pub saw : IfCancelled result (λ saw. saw ≤ revision)

-- what is left of what stands at numbers, without the jobs of these messages
abbrev pub without_jobs : {X : Type 0} → List TaskMsg → map.FinMap nat_cmp X → map.FinMap nat_cmp X
without_jobs [] xs = xs
without_jobs (message ∷ messages) xs = without_jobs messages (map.remove xs message.job)
