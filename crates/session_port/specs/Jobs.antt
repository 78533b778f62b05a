-- Jobs that are out, and the messages that fit them.
use Rattle.std.specs.Prelude.{ℕ, ◌==◌, ◌&&◌, ◌||◌, not, List, [], ◌∷◌, Bool, true, false, Option, None, Some, is_some}
use Rattle.std.specs.Prelude.{option_and_then, if◌then◌else◌}
use Rattle.std.specs.List.{list_all}
use Rattle.std.specs.Ordering.{nat_cmp}
use Rattle.std.specs.FinMap as map
use Rattle.docs_vfs.specs.declared.file_kinds.FileId.{FileId}
use Rattle.lsp_types.specs.declared.diagnostic.Diagnostic.{Diagnostic}
use Rattle.plain.specs.Plain.{is_plain}
use Rattle.session_port.specs.Kinds.{facts_of, is_priming, is_same_kind, kind_of, listed_files, value_kind}
use Rattle.session_port.specs.declared.event.TaskBody.{TaskBody}
use Rattle.session_port.specs.declared.event.TaskBody.TheVariants.{Begin, Report, PrimeReport, Final}
use Rattle.session_port.specs.declared.event.TaskMsg.{TaskMsg}
use Rattle.session_port.specs.declared.job.Job.{Job}
use Rattle.session_port.specs.declared.job.JobKind.{JobKind}
use Rattle.session_port.specs.declared.job.JobResult.{JobResult}
use Rattle.session_port.specs.declared.job.JobResult.TheVariants.{Value, Fault, Cancelled, NoMemory}
use Rattle.session_port.specs.declared.job.JobValue.{JobValue}
use Rattle.session_port.specs.declared.job.JobValue.TheVariants.{Json, Diagnostics, Tests}
use Rattle.session_port.specs.declared.kinds.JobFacts.{JobFacts}
use Rattle.session_port.specs.declared.kinds.ValueKind.{ValueKind}

-- jobs by their numbers
abbrev pub Jobs : Type 0
Jobs = map.FinMap nat_cmp Job

-- ---- results that fit

-- there is a list for each of these files, in order, and no other
abbrev pub has_files : List FileId → List (FileId × List Diagnostic) → Bool
has_files [] [] = true
has_files (file ∷ files) (list ∷ lists) = file.0 == list.0.0 && has_files files lists
has_files files lists = false

-- the JSON in a value is plain, and lists of diagnostics are those of these files
abbrev pub is_sound : List FileId → JobValue → Bool
is_sound files (Json value) = is_plain value
is_sound files (Diagnostics lists) = has_files files lists
is_sound files (Tests tests) = list_all is_plain tests
is_sound files other = true

-- a value is one of its job's kind
abbrev pub fits_value : JobKind → JobValue → Bool
fits_value kind value = is_same_kind (kind_of value) (value_kind kind) && is_sound (listed_files kind) value

-- the value is so, where a job ended with one
abbrev pub if_value : (JobValue → Bool) → JobResult → Bool
if_value test (Value value) = test value
if_value test other = true

-- an end without a value is one of every job
abbrev pub fits_kind : JobKind → JobResult → Bool
fits_kind kind result = if_value (fits_value kind) result

-- the value of a request is JSON, and plain
abbrev pub plain_value : JobValue → Bool
plain_value (Json value) = is_plain value
plain_value other = false

-- a request's job may end so
abbrev pub plain_result : JobResult → Bool
plain_result result = if_value plain_value result

-- ---- messages that fit

-- the result in a message, if it tells of one
abbrev pub final_of : TaskBody → Option JobResult
final_of (Final result) = Some result
final_of other = None

-- a job with these facts says how far it is
abbrev pub is_told : JobFacts → Bool
is_told facts = not facts.asks_analysis || is_priming facts.group

-- what a message says is what a job of its kind may say
abbrev pub fits_job : Job → TaskBody → Bool
fits_job job Begin = is_told (facts_of job.kind)
fits_job job (Report text) = not (facts_of job.kind).asks_analysis
fits_job job (PrimeReport done total crates) = is_priming (facts_of job.kind).group
fits_job job (Final result) = fits_kind job.kind result

abbrev pub if_fits_job : TaskBody → Job → Option Job
if_fits_job body job = if fits_job job body then Some job else None

-- the job out that a message fits
abbrev pub fitting_job : TaskMsg → Jobs → Option Job
fitting_job message out = option_and_then (if_fits_job message.body) (map.get out message.job)

-- ---- jobs out

-- an end takes the job with this number off
abbrev pub without_ended : TaskBody → ℕ → Jobs → Jobs
without_ended body number out = if is_some (final_of body) then map.remove out number else out

abbrev pub without_fitting : Option Job → TaskMsg → Jobs → Jobs
without_fitting None message out = out
without_fitting (Some job) message out = without_ended message.body message.job out

-- the jobs out after a message: a final result that fits takes its job off
abbrev pub jobs_after : TaskMsg → Jobs → Jobs
jobs_after message out = without_fitting (fitting_job message out) message out

abbrev pub after_batch : List TaskMsg → Jobs → Jobs
after_batch [] out = out
after_batch (message ∷ messages) out = after_batch messages (jobs_after message out)
