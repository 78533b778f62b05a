-- The JSON in what a job ends is plain, where its end fits the job.
use Rattle.std.proofs.Common.{◌≡◌, ℕ, List, true, refl}
use Rattle.std.proofs.lemmas.List.Sums.{AllPass-from_list_all}
use Rattle.std.specs.Prelude.{IfSome, Ok, Err, Result}
use Rattle.docs_vfs.specs.declared.file_kinds.FileId.{FileId}
use Rattle.op_board.specs.declared.diagnostic.NativePass.{NativePass}
use Rattle.plain.specs.Plain.{is_plain}
use Rattle.session_port.specs.Jobs.{fits_kind}
use Rattle.session_port.specs.Kinds.{job_group}
use Rattle.session_port.specs.declared.job.JobKind.{JobKind}
use Rattle.session_port.specs.declared.job.JobKind.TheVariants.{Request, Part, Diagnostics, Tests, Indexed, ProcMacroSources, CheckScope}
use Rattle.session_port.specs.declared.job.JobKind.TheVariants.{Prime, FetchWorkspaces, FetchBuildData, LoadProcMacros}
use Rattle.session_port.specs.declared.job.JobResult.{JobResult}
use Rattle.session_port.specs.declared.job.JobResult.TheVariants.{Value, Fault, Cancelled, NoMemory}
use Rattle.session_port.specs.declared.job.JobValue.{JobValue}
use Rattle.session_port.specs.declared.job.JobValue.TheVariants as values
use Rattle.session_port.specs.declared.kinds.JobGroup.{JobGroup}
use Rattle.session_port.specs.declared.kinds.JobGroup.TheVariants as groups
use Rattle.desk.specs.WorkEnds.{IsPlainEnd, build_end, check_end, end_in, fetch_end, lists_end, load_end, tests_end, value_or_reason, work_end_of}

fetch_end-plain : (came : Result JobValue (List ℕ)) → IfSome (fetch_end came) IsPlainEnd
fetch_end-plain (Ok (values.Json json)) = tt
fetch_end-plain (Ok (values.Diagnostics lists)) = tt
fetch_end-plain (Ok (values.Tests tests)) = tt
fetch_end-plain (Ok (values.Roots paths)) = tt
fetch_end-plain (Ok values.Primed) = tt
fetch_end-plain (Ok (values.Workspaces found)) = tt
fetch_end-plain (Ok (values.BuildData made)) = tt
fetch_end-plain (Ok (values.ProcMacros macros)) = tt
fetch_end-plain (Err reason) = tt

build_end-plain : (came : Result JobValue (List ℕ)) → IfSome (build_end came) IsPlainEnd
build_end-plain (Ok (values.Json json)) = tt
build_end-plain (Ok (values.Diagnostics lists)) = tt
build_end-plain (Ok (values.Tests tests)) = tt
build_end-plain (Ok (values.Roots paths)) = tt
build_end-plain (Ok values.Primed) = tt
build_end-plain (Ok (values.Workspaces found)) = tt
build_end-plain (Ok (values.BuildData made)) = tt
build_end-plain (Ok (values.ProcMacros macros)) = tt
build_end-plain (Err reason) = tt

load_end-plain : (came : Result JobValue (List ℕ)) → IfSome (load_end came) IsPlainEnd
load_end-plain (Ok (values.Json json)) = tt
load_end-plain (Ok (values.Diagnostics lists)) = tt
load_end-plain (Ok (values.Tests tests)) = tt
load_end-plain (Ok (values.Roots paths)) = tt
load_end-plain (Ok values.Primed) = tt
load_end-plain (Ok (values.Workspaces found)) = tt
load_end-plain (Ok (values.BuildData made)) = tt
load_end-plain (Ok (values.ProcMacros macros)) = tt
load_end-plain (Err reason) = tt

check_end-plain : (came : Result JobValue (List ℕ)) → IfSome (check_end came) IsPlainEnd
check_end-plain (Ok (values.Json json)) = tt
check_end-plain (Ok (values.Diagnostics lists)) = tt
check_end-plain (Ok (values.Tests tests)) = tt
check_end-plain (Ok (values.Roots paths)) = tt
check_end-plain (Ok values.Primed) = tt
check_end-plain (Ok (values.Workspaces found)) = tt
check_end-plain (Ok (values.BuildData made)) = tt
check_end-plain (Ok (values.ProcMacros macros)) = tt
check_end-plain (Err reason) = tt

end-plain : (group : JobGroup) (came : Result JobValue (List ℕ)) → IfSome (end_in group came) IsPlainEnd
end-plain groups.Requests came = tt
end-plain groups.Diagnosing came = tt
end-plain groups.Testing came = tt
end-plain groups.Indexing came = tt
end-plain groups.SourceChecks came = check_end-plain came
end-plain groups.Scoping came = tt
end-plain groups.Priming came = tt
end-plain groups.Fetches came = fetch_end-plain came
end-plain groups.Builds came = build_end-plain came
end-plain groups.Loads came = load_end-plain came

lists-plain : (generation : ℕ) (pass : NativePass) (files : List FileId) (result : JobResult) → IfSome (lists_end generation pass files result) IsPlainEnd
lists-plain generation pass files (Value (values.Json json)) = tt
lists-plain generation pass files (Value (values.Diagnostics lists)) = tt
lists-plain generation pass files (Value (values.Tests tests)) = tt
lists-plain generation pass files (Value (values.Roots paths)) = tt
lists-plain generation pass files (Value values.Primed) = tt
lists-plain generation pass files (Value (values.Workspaces found)) = tt
lists-plain generation pass files (Value (values.BuildData made)) = tt
lists-plain generation pass files (Value (values.ProcMacros macros)) = tt
lists-plain generation pass files (Fault code message) = tt
lists-plain generation pass files (Cancelled saw) = tt
lists-plain generation pass files NoMemory = tt

tests-plain : (files : List FileId) (result : JobResult) → fits_kind (Tests files) result ≡ true → IfSome (tests_end files result) IsPlainEnd
tests-plain files (Value (values.Json json)) fits = tt
tests-plain files (Value (values.Diagnostics lists)) fits = tt
tests-plain files (Value (values.Tests tests)) fits = AllPass-from_list_all is_plain tests fits
tests-plain files (Value (values.Roots paths)) fits = tt
tests-plain files (Value values.Primed) fits = tt
tests-plain files (Value (values.Workspaces found)) fits = tt
tests-plain files (Value (values.BuildData made)) fits = tt
tests-plain files (Value (values.ProcMacros macros)) fits = tt
tests-plain files (Fault code message) fits = tt
tests-plain files (Cancelled saw) fits = tt
tests-plain files NoMemory fits = tt

pub plain_ends : (kind : JobKind) (result : JobResult) → fits_kind kind result ≡ true → IfSome (work_end_of kind result) IsPlainEnd
plain_ends (Request ticket row params) result fits = end-plain (job_group (Request ticket row params)) (value_or_reason result)
plain_ends (Part ticket part row params files) result fits = end-plain (job_group (Part ticket part row params files)) (value_or_reason result)
plain_ends (Diagnostics generation pass files) result fits = lists-plain generation pass files result
plain_ends (Tests files) result fits = tests-plain files result fits
plain_ends (Indexed file path) result fits = end-plain (job_group (Indexed file path)) (value_or_reason result)
plain_ends (ProcMacroSources files) result fits = end-plain (job_group (ProcMacroSources files)) (value_or_reason result)
plain_ends (CheckScope file path) result fits = end-plain (job_group (CheckScope file path)) (value_or_reason result)
plain_ends Prime result fits = end-plain (job_group Prime) (value_or_reason result)
plain_ends (FetchWorkspaces projects detached path force) result fits = end-plain (job_group (FetchWorkspaces projects detached path force)) (value_or_reason result)
plain_ends (FetchBuildData version) result fits = end-plain (job_group (FetchBuildData version)) (value_or_reason result)
plain_ends (LoadProcMacros paths ignored) result fits = end-plain (job_group (LoadProcMacros paths ignored)) (value_or_reason result)

-- a job that finds neither lists nor tests ends as those of its group
pub other_end : (kind : JobKind) (result : JobResult) → ((generation : ℕ) (pass : NativePass) (files : List FileId) → kind ≡ Diagnostics generation pass files → ⊥)
    → ((files : List FileId) → kind ≡ Tests files → ⊥) → end_in (job_group kind) (value_or_reason result) ≡ work_end_of kind result
other_end (Request ticket row params) result lists tests = refl
other_end (Part ticket part row params files) result lists tests = refl
other_end (Diagnostics generation pass files) result lists tests = absurd (lists generation pass files refl)
other_end (Tests files) result lists tests = absurd (tests files refl)
other_end (Indexed file path) result lists tests = refl
other_end (ProcMacroSources files) result lists tests = refl
other_end (CheckScope file path) result lists tests = refl
other_end Prime result lists tests = refl
other_end (FetchWorkspaces projects detached path force) result lists tests = refl
other_end (FetchBuildData version) result lists tests = refl
other_end (LoadProcMacros paths ignored) result lists tests = refl
