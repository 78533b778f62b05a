-- An honest host's results.
use Rattle.std.specs.Prelude.{◌≡◌, ◌<◌, ℕ, Bool, true, false, List, [], ◌∷◌, map, Some, IfSome}
use Rattle.std.specs.FinMap as maps
use Rattle.analysis_host.specs.Answers.{OutcomeSpec}
use Rattle.analysis_host.specs.SnapshotData.{SnapshotData}
use Rattle.analysis_host.specs.declared.ask.Ask.{Ask}
use Rattle.session_port.specs.Events.{batch_in}
use Rattle.session_port.specs.Jobs.{Jobs, final_of, fits_kind, jobs_after}
use Rattle.session_port.specs.Kinds.{asks_analysis, asks_of}
use Rattle.session_port.specs.Results.{result_of}
use Rattle.session_port.specs.declared.event.HostEvent.{HostEvent}
use Rattle.session_port.specs.declared.event.TaskMsg.{TaskMsg}
use Rattle.session_port.specs.declared.job.Job.{Job}
use Rattle.session_port.specs.declared.job.JobKind.{JobKind}
use Rattle.session_port.specs.declared.job.JobResult.{JobResult}
use Rattle.session_port.specs.declared.job.JobResult.TheVariants.{Value, Fault, Cancelled, NoMemory}

-- a job for which the analysis is asked ends with what its questions come to; a host's job may end with any value of
-- its kind, and with any fault
abbrev pub IsEndBy : Bool → JobKind → List OutcomeSpec → JobResult → Type 0
IsEndBy true kind findings result = result ≡ result_of kind findings
IsEndBy false kind findings result = fits_kind kind result ≡ true

abbrev pub IsEndOf : JobKind → List OutcomeSpec → JobResult → Type 0
IsEndOf kind findings result = IsEndBy (asks_analysis kind) kind findings result

-- what a job's questions come to on its snapshot
abbrev pub findings_of : (SnapshotData → Ask → OutcomeSpec) → Job → List OutcomeSpec
findings_of answer job = map (answer job.snapshot) (asks_of job.kind)

-- a result that the job may have: what its questions on its snapshot come to, or what its host finds; that it saw a
-- later revision; that memory ran out
abbrev pub IsResultOf : (SnapshotData → Ask → OutcomeSpec) → Job → JobResult → Type 0
IsResultOf answer job (Value value) = IsEndOf job.kind (findings_of answer job) (Value value)
IsResultOf answer job (Fault code message) = IsEndOf job.kind (findings_of answer job) (Fault code message)
IsResultOf answer job (Cancelled saw) = job.snapshot.revision < saw
IsResultOf answer job NoMemory = Unit {0}

-- the job with this number is out, and this is a result of it
pub record IsHonestEnd (answer : SnapshotData → Ask → OutcomeSpec) (out : Jobs) (number : ℕ) (result : JobResult) : Type 0
  where
    pub job : Job
    pub is_out : maps.get out number ≡ Some job
    pub is_result : IsResultOf answer job result

-- where a message tells of an end, it is one of a job out
abbrev pub IsHonestMessage : (SnapshotData → Ask → OutcomeSpec) → Jobs → TaskMsg → Type 0
IsHonestMessage answer out message = IfSome (final_of message.body) (IsHonestEnd answer out message.job)

-- so does each message of a batch, at the jobs that the ones before it leave out
abbrev pub AreHonest : (SnapshotData → Ask → OutcomeSpec) → Jobs → List TaskMsg → Type 0
AreHonest answer out [] = Unit {0}
AreHonest answer out (message ∷ messages) = IsHonestMessage answer out message
    × AreHonest answer (jobs_after message out) messages

abbrev pub IsHonest : (SnapshotData → Ask → OutcomeSpec) → Jobs → HostEvent → Type 0
IsHonest answer out event = AreHonest answer out (batch_in event)
