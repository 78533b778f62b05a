-- What a job of diagnostics ends fits the session where the job does.
use Rattle.std.proofs.Common.{◌≡◌, ℕ, ◌≤◌, List, [], ◌∷◌, Bool, true, false, refl, sym, subst}
use Rattle.std.specs.Prelude.{◌==◌, Option, None, Some, option_and_then, Result, Ok, Err, if◌then◌else◌}
use Rattle.std.specs.FinMap as map
use Rattle.std.proofs.lemmas.Bool.{eqb-true}
use Rattle.docs_vfs.specs.Files.{Files}
use Rattle.docs_vfs.specs.declared.file_kinds.FileId.{FileId}
use Rattle.lsp_types.specs.declared.diagnostic.Diagnostic.{Diagnostic}
use Rattle.op_board.specs.Acts.{Act, gives}
use Rattle.op_board.specs.Acts.Act.{Gives}
use Rattle.op_board.specs.declared.diagnostic.NativePass.{NativePass}
use Rattle.session_port.specs.Jobs.{Jobs, final_of, fits_job, fits_kind, has_files, if_fits_job}
use Rattle.session_port.specs.declared.event.TaskBody.{TaskBody}
use Rattle.session_port.specs.declared.event.TaskBody.TheVariants.{Begin, Report, PrimeReport, Final}
use Rattle.session_port.specs.declared.event.TaskMsg.{TaskMsg}
use Rattle.session_port.specs.declared.job.Job.{Job}
use Rattle.session_port.specs.declared.job.JobKind.{JobKind}
use Rattle.session_port.specs.declared.job.JobKind.TheVariants as kinds
use Rattle.session_port.specs.declared.job.JobResult.{JobResult}
use Rattle.session_port.specs.declared.job.JobResult.TheVariants.{Value, Fault, Cancelled, NoMemory}
use Rattle.session_port.specs.declared.job.JobValue.{JobValue}
use Rattle.session_port.specs.declared.job.JobValue.TheVariants as values
use Rattle.desk.specs.WorkEnds.{build_end, check_end, empty_lists, fetch_end, lists_end, load_end, tests_end, value_or_reason, work_end_of}
use Rattle.desk.specs.WorkEnds.{work_ended, work_told}
use Rattle.desk.specs.declared.state.ends.WorkEnd.{WorkEnd}
use Rattle.desk.specs.declared.state.ends.WorkEnd.TheVariants.{Diagnosed}
use Rattle.diagnostics_laws.proofs.KeyedBools.{and-left, and-right, true-false}
use Rattle.diagnostics_laws.proofs.StoringGenerations.{AllFit, IsKnown}
use Rattle.diagnostics_laws.proofs.Sounding.{AreAmong}

abbrev pub AreKnown : Files → List FileId → Type 0
AreKnown table [] = Unit {0}
AreKnown table (file ∷ files) = IsKnown table file × AreKnown table files

-- the jobs out that find diagnostics are of no later generation, and their files have paths
abbrev pub JobsFit : ℕ → Files → Jobs → Type 0
JobsFit most table jobs = (number : ℕ) (job : Job) (generation : ℕ) (pass : NativePass) (files : List FileId)
    → map.get jobs number ≡ Some job → job.kind ≡ kinds.Diagnostics generation pass files
    → (generation ≤ most) × AreKnown table files

abbrev ListsKnown : Files → List (FileId × List Diagnostic) → Type 0
ListsKnown table [] = Unit {0}
ListsKnown table (given ∷ lists) = IsKnown table given.0 × ListsKnown table lists

-- lists that a job ends with do so too
abbrev pub EndFits : ℕ → Files → Option WorkEnd → Type 0
EndFits most table (Some (Diagnosed generation pass lists)) = (generation ≤ most) × ListsKnown table lists
EndFits most table other = Unit {0}

pub gives-fit : (table : Files) (most g : ℕ) (pass : NativePass) (lists : List (FileId × List Diagnostic)) (run : List Act) → g ≤ most
    → ListsKnown table lists → AllFit table most run → AllFit table most (gives pass g lists run)
gives-fit table most g pass [] run low known h = h
gives-fit table most g pass (given ∷ lists) run low known h =
    gives-fit table most g pass lists (Gives pass g given.0 given.1 ∷ run) low known.1 ((low, known.0), h)

lists-known : (table : Files) (files : List FileId) (lists : List (FileId × List Diagnostic)) → has_files files lists ≡ true → AreKnown table files
    → ListsKnown table lists
lists-known table [] [] has known = tt
lists-known table [] (given ∷ lists) has known = true-false (sym has)
lists-known table (file ∷ files) [] has known = true-false (sym has)
lists-known table (file ∷ files) (given ∷ lists) has known = (
  subst (λ n. IsKnown table (record { 0 = n })) (eqb-true file.0 given.0.0 (and-left (file.0 == given.0.0) (has_files files lists) has)) known.0,
  lists-known table files lists (and-right (file.0 == given.0.0) (has_files files lists) has) known.1,
)

empties-known : (table : Files) (files : List FileId) → AreKnown table files → ListsKnown table (empty_lists files)
empties-known table [] known = tt
empties-known table (file ∷ files) known = (known.0, empties-known table files known.1)

fetch-fits : (most : ℕ) (table : Files) (came : Result JobValue (List ℕ)) → EndFits most table (fetch_end came)
fetch-fits most table (Ok (values.Json value)) = tt
fetch-fits most table (Ok (values.Diagnostics lists)) = tt
fetch-fits most table (Ok (values.Tests tests)) = tt
fetch-fits most table (Ok (values.Roots paths)) = tt
fetch-fits most table (Ok values.Primed) = tt
fetch-fits most table (Ok (values.Workspaces results)) = tt
fetch-fits most table (Ok (values.BuildData results)) = tt
fetch-fits most table (Ok (values.ProcMacros macros)) = tt
fetch-fits most table (Err reason) = tt

build-fits : (most : ℕ) (table : Files) (came : Result JobValue (List ℕ)) → EndFits most table (build_end came)
build-fits most table (Ok (values.Json value)) = tt
build-fits most table (Ok (values.Diagnostics lists)) = tt
build-fits most table (Ok (values.Tests tests)) = tt
build-fits most table (Ok (values.Roots paths)) = tt
build-fits most table (Ok values.Primed) = tt
build-fits most table (Ok (values.Workspaces results)) = tt
build-fits most table (Ok (values.BuildData results)) = tt
build-fits most table (Ok (values.ProcMacros macros)) = tt
build-fits most table (Err reason) = tt

load-fits : (most : ℕ) (table : Files) (came : Result JobValue (List ℕ)) → EndFits most table (load_end came)
load-fits most table (Ok (values.Json value)) = tt
load-fits most table (Ok (values.Diagnostics lists)) = tt
load-fits most table (Ok (values.Tests tests)) = tt
load-fits most table (Ok (values.Roots paths)) = tt
load-fits most table (Ok values.Primed) = tt
load-fits most table (Ok (values.Workspaces results)) = tt
load-fits most table (Ok (values.BuildData results)) = tt
load-fits most table (Ok (values.ProcMacros macros)) = tt
load-fits most table (Err reason) = tt

check-fits : (most : ℕ) (table : Files) (came : Result JobValue (List ℕ)) → EndFits most table (check_end came)
check-fits most table (Ok (values.Json value)) = tt
check-fits most table (Ok (values.Diagnostics lists)) = tt
check-fits most table (Ok (values.Tests tests)) = tt
check-fits most table (Ok (values.Roots paths)) = tt
check-fits most table (Ok values.Primed) = tt
check-fits most table (Ok (values.Workspaces results)) = tt
check-fits most table (Ok (values.BuildData results)) = tt
check-fits most table (Ok (values.ProcMacros macros)) = tt
check-fits most table (Err reason) = tt

tests-fit : (most : ℕ) (table : Files) (files : List FileId) (result : JobResult) → EndFits most table (tests_end files result)
tests-fit most table files (Value (values.Json value)) = tt
tests-fit most table files (Value (values.Diagnostics lists)) = tt
tests-fit most table files (Value (values.Tests tests)) = tt
tests-fit most table files (Value (values.Roots paths)) = tt
tests-fit most table files (Value values.Primed) = tt
tests-fit most table files (Value (values.Workspaces results)) = tt
tests-fit most table files (Value (values.BuildData results)) = tt
tests-fit most table files (Value (values.ProcMacros macros)) = tt
tests-fit most table files (Fault code message) = tt
tests-fit most table files (Cancelled saw) = tt
tests-fit most table files NoMemory = tt

lists-fit : (most : ℕ) (table : Files) (g : ℕ) (pass : NativePass) (files : List FileId) (result : JobResult)
    → fits_kind (kinds.Diagnostics g pass files) result ≡ true → (g ≤ most) × AreKnown table files
    → EndFits most table (lists_end g pass files result)
lists-fit most table g pass files (Value (values.Json value)) fits h = tt
lists-fit most table g pass files (Value (values.Diagnostics lists)) fits h = (h.0, lists-known table files lists fits h.1)
lists-fit most table g pass files (Value (values.Tests tests)) fits h = tt
lists-fit most table g pass files (Value (values.Roots paths)) fits h = tt
lists-fit most table g pass files (Value values.Primed) fits h = tt
lists-fit most table g pass files (Value (values.Workspaces results)) fits h = tt
lists-fit most table g pass files (Value (values.BuildData results)) fits h = tt
lists-fit most table g pass files (Value (values.ProcMacros macros)) fits h = tt
lists-fit most table g pass files (Fault code message) fits h = (h.0, empties-known table files h.1)
lists-fit most table g pass files (Cancelled saw) fits h = tt
lists-fit most table g pass files NoMemory fits h = tt

kind-fits : (most : ℕ) (table : Files) (job : Job) (kind : JobKind) (result : JobResult) → job.kind ≡ kind
    → ((generation : ℕ) (pass : NativePass) (files : List FileId) → job.kind ≡ kinds.Diagnostics generation pass files → (generation ≤ most)
    × AreKnown table files)
    → fits_kind kind result ≡ true → EndFits most table (work_end_of kind result)
kind-fits most table job (kinds.Diagnostics g pass files) result is h fits = lists-fit most table g pass files result fits (h g pass files is)
kind-fits most table job (kinds.Tests files) result is h fits = tests-fit most table files result
kind-fits most table job (kinds.Request ticket row params) result is h fits = tt
kind-fits most table job (kinds.Part ticket part row params files) result is h fits = tt
kind-fits most table job (kinds.Indexed file path) result is h fits = tt
kind-fits most table job (kinds.ProcMacroSources files) result is h fits = check-fits most table (value_or_reason result)
kind-fits most table job (kinds.CheckScope file path) result is h fits = tt
kind-fits most table job kinds.Prime result is h fits = tt
kind-fits most table job (kinds.FetchWorkspaces projects detached path force) result is h fits = fetch-fits most table (value_or_reason result)
kind-fits most table job (kinds.FetchBuildData version) result is h fits = build-fits most table (value_or_reason result)
kind-fits most table job (kinds.LoadProcMacros paths ignored) result is h fits = load-fits most table (value_or_reason result)

body-fits : (most : ℕ) (table : Files) (job : Job) (body : TaskBody)
    → ((generation : ℕ) (pass : NativePass) (files : List FileId) → job.kind ≡ kinds.Diagnostics generation pass files → (generation ≤ most)
    × AreKnown table files)
    → fits_job job body ≡ true → EndFits most table (option_and_then (work_end_of job.kind) (final_of body))
body-fits most table job Begin h fits = tt
body-fits most table job (Report text) h fits = tt
body-fits most table job (PrimeReport done total crates) h fits = tt
body-fits most table job (Final result) h fits = kind-fits most table job job.kind result refl h fits

told-fits : (most : ℕ) (table : Files) (message : TaskMsg) (job : Job) (b : Bool)
    → ((generation : ℕ) (pass : NativePass) (files : List FileId) → job.kind ≡ kinds.Diagnostics generation pass files → (generation ≤ most)
    × AreKnown table files)
    → fits_job job message.body ≡ b → EndFits most table (work_told message (if b then Some job else None))
told-fits most table message job true h is = body-fits most table job message.body h is
told-fits most table message job false h is = tt

by-job : (most : ℕ) (table : Files) (message : TaskMsg) (jobs : Jobs) (o : Option Job) → map.get jobs message.job ≡ o → JobsFit most table jobs
    → EndFits most table (work_told message (option_and_then (if_fits_job message.body) o))
by-job most table message jobs None is h = tt
by-job most table message jobs (Some job) is h =
    told-fits most table message job (fits_job job message.body) (λ g pass files kind. h message.job job g pass files is kind) refl

pub ended-fits : (most : ℕ) (table : Files) (message : TaskMsg) (jobs : Jobs) → JobsFit most table jobs → EndFits most table (work_ended message jobs)
ended-fits most table message jobs h = by-job most table message jobs (map.get jobs message.job) refl h

pub among-fit : (most : ℕ) (table : Files) (new old : Jobs) → AreAmong new old → JobsFit most table old → JobsFit most table new
among-fit most table new old among h = λ number job g pass files is kind. h number job g pass files (among number job is) kind
