-- What the messages of jobs end of the session's own work, and what it came to.
use Rattle.std.specs.Prelude.{◌≡◌, ℕ, List, [], codes, map as each, All, true, Option, None, Some, option_and_then}
use Rattle.std.specs.Prelude.{Result, Ok, Err}
use Rattle.docs_vfs.specs.declared.file_kinds.FileId.{FileId}
use Rattle.lsp_types.specs.declared.diagnostic.Diagnostic.{Diagnostic}
use Rattle.op_board.specs.declared.diagnostic.NativePass.{NativePass}
use Rattle.plain.specs.Plain.{is_plain}
use Rattle.project_model.specs.declared.build.BuildScripts.{BuildScripts}
use Rattle.project_model.specs.declared.crates.MacroState.{MacroState}
use Rattle.project_model.specs.declared.workspace.ProjectWorkspace.{ProjectWorkspace}
use Rattle.session_port.specs.Jobs.{Jobs, final_of, fitting_job}
use Rattle.session_port.specs.Kinds.{job_group}
use Rattle.session_port.specs.declared.event.TaskBody.TheVariants.{Final}
use Rattle.session_port.specs.declared.event.TaskMsg.{TaskMsg}
use Rattle.session_port.specs.declared.job.Job.{Job}
use Rattle.session_port.specs.declared.job.JobKind.{JobKind}
use Rattle.session_port.specs.declared.job.JobKind.TheVariants as kinds
use Rattle.session_port.specs.declared.job.JobResult.{JobResult}
use Rattle.session_port.specs.declared.job.JobResult.TheVariants.{Value, Fault, Cancelled, NoMemory}
use Rattle.session_port.specs.declared.job.JobValue.{JobValue}
use Rattle.session_port.specs.declared.job.JobValue.TheVariants.{Roots, Workspaces, BuildData, ProcMacros}
use Rattle.session_port.specs.declared.job.JobValue.TheVariants.{Diagnostics, Tests}
use Rattle.session_port.specs.declared.kinds.JobGroup.{JobGroup}
use Rattle.session_port.specs.declared.kinds.JobGroup.TheVariants as groups
use Rattle.desk.specs.declared.state.ends.WorkEnd.{WorkEnd}
use Rattle.desk.specs.declared.state.ends.WorkEnd.TheVariants.{Fetched, Built, Checked, Loaded, Diagnosed, Tested}

-- ---- what each kind of work comes to

-- workspaces, each found or not; or why there are none at all
abbrev pub FetchEnd : Type 0
FetchEnd = Result (List (Result ProjectWorkspace (List ℕ))) (List ℕ)

-- what the build scripts made, workspace by workspace, or why those of one made nothing; or why there is none at all
abbrev pub BuildEnd : Type 0
BuildEnd = Result (List (Result BuildScripts (List ℕ))) (List ℕ)

-- what became of the macros of crates, by the numbers of the crates; or why none were loaded at all
abbrev pub LoadEnd : Type 0
LoadEnd = Result (List (ℕ × MacroState)) (List ℕ)

-- ---- what a job came to

-- its value, or why there is none: a fault's message, and a text for each other end
abbrev pub value_or_reason : JobResult → Result JobValue (List ℕ)
value_or_reason (Value value) = Ok value
value_or_reason (Fault code message) = Err message
value_or_reason (Cancelled saw) = Err (codes "cancelled")
value_or_reason NoMemory = Err (codes "out of memory")

-- what that is to a fetch, a run of build data and a load of macros
abbrev pub fetch_end : Result JobValue (List ℕ) → Option WorkEnd
fetch_end (Ok (Workspaces results)) = Some (Fetched (Ok results))
fetch_end (Ok other) = None
fetch_end (Err reason) = Some (Fetched (Err reason))

abbrev pub build_end : Result JobValue (List ℕ) → Option WorkEnd
build_end (Ok (BuildData results)) = Some (Built (Ok results))
build_end (Ok other) = None
build_end (Err reason) = Some (Built (Err reason))

abbrev pub load_end : Result JobValue (List ℕ) → Option WorkEnd
load_end (Ok (ProcMacros macros)) = Some (Loaded (Ok macros))
load_end (Ok other) = None
load_end (Err reason) = Some (Loaded (Err reason))

-- a check of sources found the root files of crates only where it ended with a value
abbrev pub check_end : Result JobValue (List ℕ) → Option WorkEnd
check_end (Ok (Roots paths)) = Some (Checked paths)
check_end (Ok other) = None
check_end (Err reason) = None

-- ---- lists of files

-- an empty list for each of these files
abbrev pub empty_lists : List FileId → List (FileId × List Diagnostic)
empty_lists files = each (λ file. (file, [])) files

-- what is wrong in files: the lists that were found, or, after a fault, none of them; a job that stopped or found no
-- memory leaves those that there are
abbrev pub lists_end : ℕ → NativePass → List FileId → JobResult → Option WorkEnd
lists_end generation pass files (Value (Diagnostics lists)) = Some (Diagnosed generation pass lists)
lists_end generation pass files (Value other) = None
lists_end generation pass files (Fault code message) = Some (Diagnosed generation pass (empty_lists files))
lists_end generation pass files (Cancelled saw) = None
lists_end generation pass files NoMemory = None

-- the tests of files, where they were found
abbrev pub tests_end : List FileId → JobResult → Option WorkEnd
tests_end files (Value (Tests tests)) = Some (Tested files tests)
tests_end files other = None

-- the JSON in an end is plain
abbrev pub IsPlainEnd : WorkEnd → Type 0
IsPlainEnd (Tested files tests) = All (λ test. is_plain test ≡ true) tests
IsPlainEnd other = Unit {0}

-- ---- what ends

-- what a job of this group ends that came to this: a fetch, a run of build data, a load of macros and a check of
-- sources are work of the session's own whose end it waits for
abbrev pub end_in : JobGroup → Result JobValue (List ℕ) → Option WorkEnd
end_in groups.Fetches came = fetch_end came
end_in groups.Builds came = build_end came
end_in groups.Loads came = load_end came
end_in groups.SourceChecks came = check_end came
end_in other came = None

abbrev pub work_end_of : JobKind → JobResult → Option WorkEnd
work_end_of (kinds.Diagnostics generation pass files) result = lists_end generation pass files result
work_end_of (kinds.Tests files) result = tests_end files result
work_end_of other result = end_in (job_group other) (value_or_reason result)

-- the message that the job with this number has ended so
abbrev pub ended_message : ℕ → JobResult → TaskMsg
ended_message number result = record { job = number; body = Final result }

-- what a message ends that fits this job, if it fits one
abbrev pub work_told : TaskMsg → Option Job → Option WorkEnd
work_told message None = None
work_told message (Some job) = option_and_then (work_end_of job.kind) (final_of message.body)

-- what a message of a job ends, where these jobs are out
abbrev pub work_ended : TaskMsg → Jobs → Option WorkEnd
work_ended message jobs = work_told message (fitting_job message jobs)
