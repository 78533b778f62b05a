-- A result by what a job's questions come to is one by the end that they come to.
use Rattle.std.proofs.Common.{Bool, true, false, List}
use Rattle.analysis_host.specs.Answers.{OutcomeSpec}
use Rattle.analysis_host.specs.SnapshotData.{SnapshotData}
use Rattle.analysis_host.specs.declared.ask.Ask.{Ask}
use Rattle.session_port.specs.Honest.{IsEndBy, IsResultOf, findings_of}
use Rattle.session_port.specs.Kinds.{asks_analysis}
use Rattle.session_port.specs.Results.{result_of}
use Rattle.session_port.specs.declared.job.Job.{Job}
use Rattle.session_port.specs.declared.job.JobKind.{JobKind}
use Rattle.session_port.specs.declared.job.JobResult.{JobResult}
use Rattle.session_port.specs.declared.job.JobResult.TheVariants.{Value, Fault, Cancelled, NoMemory}
use Rattle.task_pool.specs.Ends.{IsEndAs, IsResultAs, end_of}

by_end : (b : Bool) (kind : JobKind) (findings : List OutcomeSpec) (r : JobResult) → IsEndBy b kind findings r → IsEndAs b kind (result_of kind findings) r
by_end true kind findings r is = is
by_end false kind findings r is = is

by_findings : (b : Bool) (kind : JobKind) (findings : List OutcomeSpec) (r : JobResult) → IsEndAs b kind (result_of kind findings) r → IsEndBy b kind findings r
by_findings true kind findings r is = is
by_findings false kind findings r is = is

pub result_as : (answer : SnapshotData → Ask → OutcomeSpec) (job : Job) (r : JobResult) → IsResultOf answer job r → IsResultAs (end_of answer job) job r
result_as answer job (Value value) is = by_end (asks_analysis job.kind) job.kind (findings_of answer job) (Value value) is
result_as answer job (Fault code message) is = by_end (asks_analysis job.kind) job.kind (findings_of answer job) (Fault code message) is
result_as answer job (Cancelled saw) is = is
result_as answer job NoMemory is = is

pub result_of_end : (answer : SnapshotData → Ask → OutcomeSpec) (job : Job) (r : JobResult) → IsResultAs (end_of answer job) job r → IsResultOf answer job r
result_of_end answer job (Value value) is = by_findings (asks_analysis job.kind) job.kind (findings_of answer job) (Value value) is
result_of_end answer job (Fault code message) is = by_findings (asks_analysis job.kind) job.kind (findings_of answer job) (Fault code message) is
result_of_end answer job (Cancelled saw) is = is
result_of_end answer job NoMemory is = is
