-- What a job may end with, by what its questions come to.
use Rattle.std.specs.Prelude.{◌≡◌, ◌<◌, Bool, true, false}
use Rattle.analysis_host.specs.Answers.{OutcomeSpec}
use Rattle.analysis_host.specs.SnapshotData.{SnapshotData}
use Rattle.analysis_host.specs.declared.ask.Ask.{Ask}
use Rattle.session_port.specs.Honest.{findings_of}
use Rattle.session_port.specs.Jobs.{fits_kind}
use Rattle.session_port.specs.Kinds.{asks_analysis}
use Rattle.session_port.specs.Results.{result_of}
use Rattle.session_port.specs.declared.job.Job.{Job}
use Rattle.session_port.specs.declared.job.JobKind.{JobKind}
use Rattle.session_port.specs.declared.job.JobResult.{JobResult}
use Rattle.session_port.specs.declared.job.JobResult.TheVariants.{Value, Fault, Cancelled, NoMemory}

-- the value or the first fault of a job's questions
abbrev pub end_of : (SnapshotData → Ask → OutcomeSpec) → Job → JobResult
end_of answer job = result_of job.kind (findings_of answer job)

-- a job for which the analysis is asked ends with this; a host's job with any value of its kind, and with any fault
abbrev pub IsEndAs : Bool → JobKind → JobResult → JobResult → Type 0
IsEndAs true kind end result = result ≡ end
IsEndAs false kind end result = fits_kind kind result ≡ true

-- a result that a job may have whose questions come to this end
abbrev pub IsResultAs : JobResult → Job → JobResult → Type 0
IsResultAs end job (Value value) = IsEndAs (asks_analysis job.kind) job.kind end (Value value)
IsResultAs end job (Fault code message) = IsEndAs (asks_analysis job.kind) job.kind end (Fault code message)
IsResultAs end job (Cancelled saw) = job.snapshot.revision < saw
IsResultAs end job NoMemory = Unit {0}
