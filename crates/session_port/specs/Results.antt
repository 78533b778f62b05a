-- What the questions of a job come to: their answers, joined into the job's value.
use Rattle.std.specs.Prelude.{ℕ, List, [], ◌∷◌, map as each, Option, None, Some}
use Rattle.std.specs.List.{filter_map, flat_map}
use Rattle.serde_json.specs.Data.{Data}
use Rattle.docs_vfs.specs.declared.file_kinds.FileId.{FileId}
use Rattle.lsp_types.specs.declared.diagnostic.Diagnostic.{Diagnostic}
use Rattle.analysis_host.specs.Answers.{OutcomeSpec, answer, fault}
use Rattle.analysis_host.specs.declared.ask.Answer.{Answer}
use Rattle.analysis_host.specs.declared.ask.Answer.TheVariants as answers
use Rattle.session_port.specs.Kinds.{listed_files, value_kind}
use Rattle.session_port.specs.declared.job.JobKind.{JobKind}
use Rattle.session_port.specs.declared.job.JobResult.{JobResult}
use Rattle.session_port.specs.declared.job.JobResult.TheVariants.{Value, Fault}
use Rattle.session_port.specs.declared.job.JobValue.{JobValue}
use Rattle.session_port.specs.declared.job.JobValue.TheVariants.{Json, Diagnostics, Tests, Roots, Primed}
use Rattle.session_port.specs.declared.kinds.ValueKind.{ValueKind}
use Rattle.session_port.specs.declared.kinds.ValueKind.TheVariants as kinds

-- ---- answers

-- the answers among what questions come to
abbrev pub answer_of : OutcomeSpec → Option Answer
answer_of (answer value) = Some value
answer_of (fault code message) = None

abbrev pub answers_in : List OutcomeSpec → List Answer
answers_in findings = filter_map answer_of findings

-- the value that an answer is by itself: JSON, or that all is found out
abbrev pub value_answering : Answer → JobValue
value_answering (answers.Json value) = Json value
value_answering other = Primed

-- what an answer holds
abbrev pub list_in : Answer → List Diagnostic
list_in (answers.Diagnostics list) = list
list_in other = []

abbrev pub tests_in : Answer → List Data
tests_in (answers.Tests tests) = tests
tests_in other = []

abbrev pub roots_answered : Answer → List (List ℕ)
roots_answered (answers.Roots paths) = paths
roots_answered other = []

-- ---- joined

-- the lists of answers, file by file
abbrev pub lists_of : List FileId → List Answer → List (FileId × List Diagnostic)
lists_of files [] = []
lists_of [] (first ∷ rest) = []
lists_of (file ∷ files) (first ∷ rest) = (file, list_in first) ∷ lists_of files rest

-- the value that one answer is, where one question is asked
abbrev pub first_value : List Answer → JobValue
first_value [] = Primed
first_value (first ∷ rest) = value_answering first

-- answers, joined into one value of a kind; of diagnostics, a list for each of these files
abbrev pub joined_by : ValueKind → List FileId → List Answer → JobValue
joined_by kinds.Diagnostics files found = Diagnostics (lists_of files found)
joined_by kinds.Tests files found = Tests (flat_map tests_in found)
joined_by kinds.Roots files found = Roots (flat_map roots_answered found)
joined_by other files found = first_value found

abbrev pub joined : JobKind → List Answer → JobValue
joined kind found = joined_by (value_kind kind) (listed_files kind) found

-- ---- results

-- the first fault stands for a result
abbrev pub or_fault : List OutcomeSpec → JobResult → JobResult
or_fault [] result = result
or_fault (answer value ∷ findings) result = or_fault findings result
or_fault (fault code message ∷ findings) result = Fault code message

-- what a job comes to for which the analysis is asked, by what its questions come to
abbrev pub result_of : JobKind → List OutcomeSpec → JobResult
result_of kind findings = or_fault findings (Value (joined kind (answers_in findings)))
