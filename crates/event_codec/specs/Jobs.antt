-- How messages of jobs are spelled.
use Rattle.std.specs.Prelude.{◌≡◌, ℕ, ℤ, List, Option, Result, ◌⊎◌, refl}
use Rattle.std.proofs.Common.{inl, inr}
use Rattle.serde_json.specs.Data.{Data}
use Rattle.record_codec.specs.Codec.{Codec, ◌and◌, by_parts, nothing}
use Rattle.record_codec.specs.Numbers.{number32, number64, signed32, text}
use Rattle.record_codec.specs.Lists.{list_of}
use Rattle.record_codec.specs.Cases.{◌or◌, last, by_cases, optional, outcome}
use Rattle.record_codec.specs.Leaves.{file, path, json}
use Rattle.event_codec.specs.Diagnostics.{diagnostic_codec}
use Rattle.event_codec.specs.Workspaces.{build_scripts_codec, macro_state_codec, project_workspace_codec}
use Rattle.docs_vfs.specs.declared.file_kinds.FileId.{FileId}
use Rattle.project_model.specs.declared.build.BuildScripts.{BuildScripts}
use Rattle.lsp_types.specs.declared.diagnostic.Diagnostic.{Diagnostic}
use Rattle.project_model.specs.declared.crates.MacroState.{MacroState}
use Rattle.project_model.specs.declared.workspace.ProjectWorkspace.{ProjectWorkspace}
use Rattle.session_port.specs.declared.job.JobValue.{JobValue}
use Rattle.session_port.specs.declared.job.JobValue.TheVariants as job_value
use Rattle.session_port.specs.declared.job.JobResult.{JobResult}
use Rattle.session_port.specs.declared.job.JobResult.TheVariants as job_result
use Rattle.session_port.specs.declared.event.TaskBody.{TaskBody}
use Rattle.session_port.specs.declared.event.TaskBody.TheVariants as task_body
use Rattle.session_port.specs.declared.event.TaskMsg.{TaskMsg}

abbrev pub JobValueParts : Type 0
JobValueParts = Data ⊎ ((List (FileId × (List Diagnostic)))
    ⊎ ((List Data) ⊎ ((List (List ℕ)) ⊎ ((Unit {0})
    ⊎ ((List (Result ProjectWorkspace (List ℕ)))
    ⊎ ((List (Result BuildScripts (List ℕ))) ⊎ (List (ℕ × MacroState))))))))

abbrev pub job_value_parts : JobValue → JobValueParts
job_value_parts (job_value.Json x) = inl x
job_value_parts (job_value.Diagnostics x) = inr (inl x)
job_value_parts (job_value.Tests x) = inr (inr (inl x))
job_value_parts (job_value.Roots x) = inr (inr (inr (inl x)))
job_value_parts job_value.Primed = inr (inr (inr (inr (inl tt))))
job_value_parts (job_value.Workspaces x) = inr (inr (inr (inr (inr (inl x)))))
job_value_parts (job_value.BuildData x) = inr (inr (inr (inr (inr (inr (inl x))))))
job_value_parts (job_value.ProcMacros x) = inr (inr (inr (inr (inr (inr (inr x))))))

abbrev pub job_value_of : JobValueParts → JobValue
job_value_of (inl p) = job_value.Json p
job_value_of (inr (inl p)) = job_value.Diagnostics p
job_value_of (inr (inr (inl p))) = job_value.Tests p
job_value_of (inr (inr (inr (inl p)))) = job_value.Roots p
job_value_of (inr (inr (inr (inr (inl p))))) = job_value.Primed
job_value_of (inr (inr (inr (inr (inr (inl p)))))) = job_value.Workspaces p
job_value_of (inr (inr (inr (inr (inr (inr (inl p))))))) = job_value.BuildData p
job_value_of (inr (inr (inr (inr (inr (inr (inr p))))))) = job_value.ProcMacros p

pub job_value_made : (x : JobValue) → job_value_of (job_value_parts x) ≡ x
job_value_made (job_value.Json x) = refl
job_value_made (job_value.Diagnostics x) = refl
job_value_made (job_value.Tests x) = refl
job_value_made (job_value.Roots x) = refl
job_value_made job_value.Primed = refl
job_value_made (job_value.Workspaces x) = refl
job_value_made (job_value.BuildData x) = refl
job_value_made (job_value.ProcMacros x) = refl

pub job_value_unmade : (y : JobValueParts) → job_value_parts (job_value_of y) ≡ y
job_value_unmade (inl p) = refl
job_value_unmade (inr (inl p)) = refl
job_value_unmade (inr (inr (inl p))) = refl
job_value_unmade (inr (inr (inr (inl p)))) = refl
job_value_unmade (inr (inr (inr (inr (inl p))))) = refl
job_value_unmade (inr (inr (inr (inr (inr (inl p)))))) = refl
job_value_unmade (inr (inr (inr (inr (inr (inr (inl p))))))) = refl
job_value_unmade (inr (inr (inr (inr (inr (inr (inr p))))))) = refl

unfoldable pub job_value_codec : Codec JobValue
job_value_codec =
    by_cases job_value_parts job_value_of job_value_made job_value_unmade
    (json or (list_of (file and list_of diagnostic_codec)) or (list_of json) or (list_of path) or nothing or
    (list_of (outcome project_workspace_codec text)) or (list_of (outcome build_scripts_codec text)) or last
    (list_of (number32 and macro_state_codec)))

abbrev pub JobResultParts : Type 0
JobResultParts = JobValue ⊎ (((Option ℤ) × (List ℕ)) ⊎ (ℕ ⊎ (Unit {0})))

abbrev pub job_result_parts : JobResult → JobResultParts
job_result_parts (job_result.Value x) = inl x
job_result_parts (job_result.Fault code message) = inr (inl (code, message))
job_result_parts (job_result.Cancelled saw) = inr (inr (inl saw))
job_result_parts job_result.NoMemory = inr (inr (inr tt))

abbrev pub job_result_of : JobResultParts → JobResult
job_result_of (inl p) = job_result.Value p
job_result_of (inr (inl p)) = job_result.Fault p.0 p.1
job_result_of (inr (inr (inl p))) = job_result.Cancelled p
job_result_of (inr (inr (inr p))) = job_result.NoMemory

pub job_result_made : (x : JobResult) → job_result_of (job_result_parts x) ≡ x
job_result_made (job_result.Value x) = refl
job_result_made (job_result.Fault code message) = refl
job_result_made (job_result.Cancelled saw) = refl
job_result_made job_result.NoMemory = refl

pub job_result_unmade : (y : JobResultParts) → job_result_parts (job_result_of y) ≡ y
job_result_unmade (inl p) = refl
job_result_unmade (inr (inl p)) = refl
job_result_unmade (inr (inr (inl p))) = refl
job_result_unmade (inr (inr (inr p))) = refl

unfoldable pub job_result_codec : Codec JobResult
job_result_codec =
    by_cases job_result_parts job_result_of job_result_made job_result_unmade
    (job_value_codec or (optional signed32 and text) or number64 or last nothing)

abbrev pub TaskBodyParts : Type 0
TaskBodyParts = (Unit {0}) ⊎ ((List ℕ) ⊎ ((ℕ × (ℕ × (List (List ℕ)))) ⊎ JobResult))

abbrev pub task_body_parts : TaskBody → TaskBodyParts
task_body_parts task_body.Begin = inl tt
task_body_parts (task_body.Report x) = inr (inl x)
task_body_parts (task_body.PrimeReport done total crates) = inr (inr (inl (done, (total, crates))))
task_body_parts (task_body.Final x) = inr (inr (inr x))

abbrev pub task_body_of : TaskBodyParts → TaskBody
task_body_of (inl p) = task_body.Begin
task_body_of (inr (inl p)) = task_body.Report p
task_body_of (inr (inr (inl p))) = task_body.PrimeReport p.0 p.1.0 p.1.1
task_body_of (inr (inr (inr p))) = task_body.Final p

pub task_body_made : (x : TaskBody) → task_body_of (task_body_parts x) ≡ x
task_body_made task_body.Begin = refl
task_body_made (task_body.Report x) = refl
task_body_made (task_body.PrimeReport done total crates) = refl
task_body_made (task_body.Final x) = refl

pub task_body_unmade : (y : TaskBodyParts) → task_body_parts (task_body_of y) ≡ y
task_body_unmade (inl p) = refl
task_body_unmade (inr (inl p)) = refl
task_body_unmade (inr (inr (inl p))) = refl
task_body_unmade (inr (inr (inr p))) = refl

unfoldable pub prime_report_codec : Codec (ℕ × (ℕ × List (List ℕ)))
prime_report_codec = number64 and number64 and list_of text

unfoldable pub task_body_codec : Codec TaskBody
task_body_codec =
    by_cases task_body_parts task_body_of task_body_made task_body_unmade
    (nothing or text or prime_report_codec or last job_result_codec)

unfoldable pub task_msg_codec : Codec TaskMsg
task_msg_codec =
    by_parts (λ x. (x.job, x.body))
    (λ p. record { job = p.0; body = p.1 }) (λ x. refl) (λ p. refl)
    (number64 and task_body_codec)
