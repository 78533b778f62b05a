-- What the ends of jobs do to what is in progress of the host's own jobs: what ends is off, and nothing else starts or ends.
use Rattle.std.proofs.Common.{◌≡◌, ℕ, List, [], Bool, ◌&&◌, true, false, refl, sym, ap, subst}
use Rattle.std.specs.Prelude.{codes, Option, None, Some, option_and_then, Result, Ok, Err, if◌then◌else◌}
use Rattle.std.specs.FinMap as map
use Rattle.docs_vfs.specs.declared.file_kinds.FileId.{FileId}
use Rattle.op_board.specs.declared.diagnostic.NativePass.{NativePass}
use Rattle.session_port.specs.Jobs.{Jobs, jobs_after, final_of, fits_job, fits_kind, fitting_job, if_value, is_sound, without_ended, without_fitting}
use Rattle.session_port.specs.Kinds.{is_same_kind, kind_of}
use Rattle.session_port.specs.declared.event.TaskBody.{TaskBody}
use Rattle.session_port.specs.declared.event.TaskBody.TheVariants.{Final}
use Rattle.session_port.specs.declared.event.TaskMsg.{TaskMsg}
use Rattle.session_port.specs.declared.job.Job.{Job}
use Rattle.session_port.specs.declared.job.JobKind.{JobKind}
use Rattle.session_port.specs.declared.job.JobKind.TheVariants as job_kinds
use Rattle.session_port.specs.declared.job.JobKind.TheVariants.{ProcMacroSources, FetchWorkspaces, FetchBuildData, LoadProcMacros}
use Rattle.session_port.specs.declared.job.JobResult.{JobResult}
use Rattle.session_port.specs.declared.job.JobResult.TheVariants.{Value, Fault, Cancelled, NoMemory}
use Rattle.session_port.specs.declared.job.JobValue.{JobValue}
use Rattle.session_port.specs.declared.job.JobValue.TheVariants.{Diagnostics, Roots, Tests, Workspaces as WorkspacesValue, BuildData, ProcMacros}
use Rattle.session_port.specs.declared.kinds.ValueKind.{ValueKind}
use Rattle.session_port.specs.declared.kinds.ValueKind.TheVariants as kinds
use Rattle.desk.specs.WorkEnds.{BuildEnd, FetchEnd, LoadEnd, build_end, check_end, fetch_end, lists_end, load_end, tests_end, value_or_reason, work_end_of, work_ended, work_told}
use Rattle.desk.specs.declared.state.ends.WorkEnd.{WorkEnd}
use Rattle.desk.specs.declared.state.ends.WorkEnd.TheVariants.{Fetched, Built, Checked, Loaded, Diagnosed, Tested}
use Rattle.desk_laws.proofs.Fitting.{fit-fits, fit-out}
use Rattle.workspaces.specs.Builds.{end_build}
use Rattle.workspaces.specs.Fetches.{end_fetch}
use Rattle.workspaces.specs.Loads.{end_load}
use Rattle.workspaces.specs.Workspaces.{Builds, Fetches, Loads, Workspaces}
use Rattle.session_model.specs.Building.{build_kept}
use Rattle.session_model.specs.Checking.{check_kept}
use Rattle.session_model.specs.Fetching.{fetch_kept}
use Rattle.session_model.specs.Loading.{load_kept}
use Rattle.session_laws.specs.Invariant.{IsOfTurns, IsOutIf, is_build, is_fetch, is_load}
use Rattle.session_laws.proofs.OneOut.{kept-off, off-other, true-false}
use Rattle.session_laws.proofs.Running.{SameRuns, building, fetching, loading, same-runs, versions_of}

-- ---- what an end leaves of the workspaces

abbrev pub work_kept : WorkEnd → Workspaces → Workspaces
work_kept (Fetched found) workspaces = fetch_kept found workspaces
work_kept (Built made) workspaces = build_kept made workspaces
work_kept (Checked roots) workspaces = check_kept roots workspaces
work_kept (Loaded told) workspaces = load_kept told workspaces
work_kept (Diagnosed generation pass lists) workspaces = workspaces
work_kept (Tested files tests) workspaces = workspaces

abbrev pub end_kept : Option WorkEnd → Workspaces → Workspaces
end_kept None workspaces = workspaces
end_kept (Some end) workspaces = work_kept end workspaces

if-leaves : {X : Type 0} (part : Workspaces → X) (b : Bool) (ended workspaces : Workspaces) → part ended ≡ part workspaces
    → part (if b then ended else workspaces) ≡ part workspaces
if-leaves part true ended workspaces same = same
if-leaves part false ended workspaces same = refl

-- an end of a fetch leaves the builds, the loads and the versions
pub fetch-leaves : (found : FetchEnd) (workspaces : Workspaces)
    → ((fetch_kept found workspaces).builds ≡ workspaces.builds) × ((fetch_kept found workspaces).loads ≡ workspaces.loads)
    × (versions_of (fetch_kept found workspaces) ≡ versions_of workspaces)
fetch-leaves found workspaces =
    let ended : Workspaces = record workspaces { fetches = end_fetch found workspaces.fetches; switch_wanted = true } in (
      if-leaves (λ (w : Workspaces). w.builds) (fetching workspaces) ended workspaces refl,
      if-leaves (λ (w : Workspaces). w.loads) (fetching workspaces) ended workspaces refl,
      if-leaves versions_of (fetching workspaces) ended workspaces refl,
    )

-- an end of build data leaves the fetches, the loads and the versions
pub build-leaves : (made : BuildEnd) (workspaces : Workspaces)
    → ((build_kept made workspaces).fetches ≡ workspaces.fetches) × ((build_kept made workspaces).loads ≡ workspaces.loads)
    × (versions_of (build_kept made workspaces) ≡ versions_of workspaces)
build-leaves made workspaces =
    let ended : Workspaces = record workspaces { builds = end_build made workspaces.builds; switch_wanted = true } in (
      if-leaves (λ (w : Workspaces). w.fetches) (building workspaces) ended workspaces refl,
      if-leaves (λ (w : Workspaces). w.loads) (building workspaces) ended workspaces refl,
      if-leaves versions_of (building workspaces) ended workspaces refl,
    )

-- an end of a load leaves the fetches, the builds and the versions
pub load-leaves : (told : LoadEnd) (workspaces : Workspaces)
    → ((load_kept told workspaces).fetches ≡ workspaces.fetches) × ((load_kept told workspaces).builds ≡ workspaces.builds)
    × (versions_of (load_kept told workspaces) ≡ versions_of workspaces)
load-leaves told workspaces =
    let ended : Workspaces = record workspaces { loads = end_load told workspaces.loads } in (
      if-leaves (λ (w : Workspaces). w.fetches) (loading workspaces) ended workspaces refl,
      if-leaves (λ (w : Workspaces). w.builds) (loading workspaces) ended workspaces refl,
      if-leaves versions_of (loading workspaces) ended workspaces refl,
    )

-- each leaves the versions
pub work-versions : (end : WorkEnd) (workspaces : Workspaces) → versions_of (work_kept end workspaces) ≡ versions_of workspaces
work-versions (Fetched found) workspaces = (fetch-leaves found workspaces).2
work-versions (Built made) workspaces = (build-leaves made workspaces).2
work-versions (Checked roots) workspaces = refl
work-versions (Loaded told) workspaces = (load-leaves told workspaces).2
work-versions (Diagnosed generation pass lists) workspaces = refl
work-versions (Tested files tests) workspaces = refl

-- ---- what is in progress is out

-- what is in progress of the host's own jobs is out, from these workspaces and jobs on to those
pub record RunsTo (turns : ℕ) (before : Workspaces) (out : Jobs) (after : Workspaces) (now : Jobs) : Type 0 where
  pub fetches : IsOutIf is_fetch (fetching before) out → IsOutIf is_fetch (fetching after) now
  pub builds : IsOutIf is_build (building before) out → IsOutIf is_build (building after) now
  pub loads : IsOutIf is_load (loading before) out → IsOutIf is_load (loading after) now
  pub waits : IsOfTurns turns before.fetches.waiting → IsOfTurns turns after.fetches.waiting

pub runs-to-on : (turns : ℕ) (first : Workspaces) (out : Jobs) (second : Workspaces) (mid : Jobs) (third : Workspaces) (now : Jobs)
    → RunsTo turns first out second mid → RunsTo turns second mid third now → RunsTo turns first out third now
runs-to-on turns first out second mid third now p q = record {
  fetches = λ h. q.fetches (p.fetches h);
  builds = λ h. q.builds (p.builds h);
  loads = λ h. q.loads (p.loads h);
  waits = λ h. q.waits (p.waits h);
}

pub same-runs-to : (turns : ℕ) (before after : Workspaces) (out : Jobs) → SameRuns turns before after → RunsTo turns before out after out
same-runs-to turns before after out same = record {
  fetches = subst (λ b. IsOutIf is_fetch b out) (sym same.fetching);
  builds = subst (λ b. IsOutIf is_build b out) (sym same.building);
  loads = subst (λ b. IsOutIf is_load b out) (sym same.loading);
  waits = same.waiting;
}

-- a job ends that is none of the host's own
off-runs : (turns : ℕ) (before after : Workspaces) (n : ℕ) (job : Job) (out : Jobs) → SameRuns turns before after → map.get out n ≡ Some job
    → is_fetch job.kind ≡ false → is_build job.kind ≡ false → is_load job.kind ≡ false → RunsTo turns before out after (map.remove out n)
off-runs turns before after n job out same there no_fetch no_build no_load = record {
  fetches = λ h. subst (λ b. IsOutIf is_fetch b (map.remove out n)) (sym same.fetching) (off-other is_fetch (fetching before) n job out there no_fetch h);
  builds = λ h. subst (λ b. IsOutIf is_build b (map.remove out n)) (sym same.building) (off-other is_build (building before) n job out there no_build h);
  loads = λ h. subst (λ b. IsOutIf is_load b (map.remove out n)) (sym same.loading) (off-other is_load (loading before) n job out there no_load h);
  waits = same.waiting;
}

-- ---- each kind of work

-- the value is of this kind, where a job's value has no lists of files
abbrev pub is_of : ValueKind → JobValue → Bool
is_of kind value = is_same_kind (kind_of value) kind && is_sound [] value

-- a fetch ends with what it came to
fetch-has-end : (result : JobResult) → if_value (is_of kinds.Workspaces) result ≡ true → (found : FetchEnd)
    × (fetch_end (value_or_reason result) ≡ Some (Fetched found))
fetch-has-end (Value (WorkspacesValue results)) fit = (Ok results, refl)
fetch-has-end (Value other) fit = true-false (sym fit)
fetch-has-end (Fault code message) fit = (Err message, refl)
fetch-has-end (Cancelled saw) fit = (Err (codes "cancelled"), refl)
fetch-has-end NoMemory fit = (Err (codes "out of memory"), refl)

-- a run of build data ends with what it came to
build-has-end : (result : JobResult) → if_value (is_of kinds.BuildData) result ≡ true → (made : BuildEnd)
    × (build_end (value_or_reason result) ≡ Some (Built made))
build-has-end (Value (BuildData results)) fit = (Ok results, refl)
build-has-end (Value other) fit = true-false (sym fit)
build-has-end (Fault code message) fit = (Err message, refl)
build-has-end (Cancelled saw) fit = (Err (codes "cancelled"), refl)
build-has-end NoMemory fit = (Err (codes "out of memory"), refl)

-- a load ends with what it came to
pub load-has-end : (result : JobResult) → if_value (is_of kinds.ProcMacros) result ≡ true → (told : LoadEnd)
    × (load_end (value_or_reason result) ≡ Some (Loaded told))
load-has-end (Value (ProcMacros macros)) fit = (Ok macros, refl)
load-has-end (Value other) fit = true-false (sym fit)
load-has-end (Fault code message) fit = (Err message, refl)
load-has-end (Cancelled saw) fit = (Err (codes "cancelled"), refl)
load-has-end NoMemory fit = (Err (codes "out of memory"), refl)

-- an end of a fetch leaves what waits for a timer
fetch-waits : (found : FetchEnd) (workspaces : Workspaces) → (fetch_kept found workspaces).fetches.waiting ≡ workspaces.fetches.waiting
fetch-waits found workspaces =
    if-leaves (λ (w : Workspaces). w.fetches.waiting) (fetching workspaces)
    (record workspaces { fetches = end_fetch found workspaces.fetches; switch_wanted = true }) workspaces refl

found-runs : (turns : ℕ) (found : FetchEnd) (workspaces : Workspaces) (n : ℕ) (job : Job) (out : Jobs) → map.get out n ≡ Some job
    → is_fetch job.kind ≡ true → is_build job.kind ≡ false → is_load job.kind ≡ false
    → RunsTo turns workspaces out (fetch_kept found workspaces) (map.remove out n)
found-runs turns found workspaces n job out there one no_build no_load =
    let same = fetch-leaves found workspaces in
    record {
      fetches = kept-off is_fetch fetching (fetching workspaces) (record workspaces { fetches = end_fetch found workspaces.fetches; switch_wanted = true })
          workspaces n job out refl there one;
      builds = λ h. subst (λ (b : Builds). IsOutIf is_build b.queue.in_progress (map.remove out n)) (sym same.0)
          (off-other is_build (building workspaces) n job out there no_build h);
      loads = λ h. subst (λ (l : Loads). IsOutIf is_load l.queue.in_progress (map.remove out n)) (sym same.1)
          (off-other is_load (loading workspaces) n job out there no_load h);
      waits = subst (IsOfTurns turns) (sym (fetch-waits found workspaces));
    }

made-runs : (turns : ℕ) (made : BuildEnd) (workspaces : Workspaces) (n : ℕ) (job : Job) (out : Jobs) → map.get out n ≡ Some job
    → is_fetch job.kind ≡ false → is_build job.kind ≡ true → is_load job.kind ≡ false
    → RunsTo turns workspaces out (build_kept made workspaces) (map.remove out n)
made-runs turns made workspaces n job out there no_fetch one no_load =
    let same = build-leaves made workspaces in
    record {
      fetches = λ h. subst (λ (f : Fetches). IsOutIf is_fetch f.queue.in_progress (map.remove out n)) (sym same.0)
          (off-other is_fetch (fetching workspaces) n job out there no_fetch h);
      builds = kept-off is_build building (building workspaces)
          (record workspaces { builds = end_build made workspaces.builds; switch_wanted = true }) workspaces n job out
          refl there one;
      loads = λ h. subst (λ (l : Loads). IsOutIf is_load l.queue.in_progress (map.remove out n)) (sym same.1)
          (off-other is_load (loading workspaces) n job out there no_load h);
      waits = subst (λ (f : Fetches). IsOfTurns turns f.waiting) (sym same.0);
    }

told-runs : (turns : ℕ) (told : LoadEnd) (workspaces : Workspaces) (n : ℕ) (job : Job) (out : Jobs) → map.get out n ≡ Some job
    → is_fetch job.kind ≡ false → is_build job.kind ≡ false → is_load job.kind ≡ true
    → RunsTo turns workspaces out (load_kept told workspaces) (map.remove out n)
told-runs turns told workspaces n job out there no_fetch no_build one =
    let same = load-leaves told workspaces in
    record {
      fetches = λ h. subst (λ (f : Fetches). IsOutIf is_fetch f.queue.in_progress (map.remove out n)) (sym same.0)
          (off-other is_fetch (fetching workspaces) n job out there no_fetch h);
      builds = λ h. subst (λ (b : Builds). IsOutIf is_build b.queue.in_progress (map.remove out n)) (sym same.1)
          (off-other is_build (building workspaces) n job out there no_build h);
      loads = kept-off is_load loading (loading workspaces) (record workspaces { loads = end_load told workspaces.loads }) workspaces n job out refl there one;
      waits = subst (λ (f : Fetches). IsOfTurns turns f.waiting) (sym same.0);
    }

-- an end of a check leaves all that is in progress
check-runs : (turns : ℕ) (came : Result JobValue (List ℕ)) (workspaces : Workspaces) → SameRuns turns workspaces (end_kept (check_end came) workspaces)
check-runs turns (Ok (Roots paths)) workspaces = record { fetching = refl; building = refl; loading = refl; waiting = λ h. h; versions = refl }
check-runs turns (Ok other) workspaces = same-runs turns workspaces workspaces refl
check-runs turns (Err reason) workspaces = same-runs turns workspaces workspaces refl

-- neither do lists of diagnostics and of tests that come
lists-keep : (generation : ℕ) (pass : NativePass) (files : List FileId) (result : JobResult) (workspaces : Workspaces)
    → end_kept (lists_end generation pass files result) workspaces ≡ workspaces
lists-keep generation pass files (Value (Diagnostics lists)) workspaces = refl
lists-keep generation pass files (Value other) workspaces = refl
lists-keep generation pass files (Fault code message) workspaces = refl
lists-keep generation pass files (Cancelled saw) workspaces = refl
lists-keep generation pass files NoMemory workspaces = refl

tests-keep : (files : List FileId) (result : JobResult) (workspaces : Workspaces) → end_kept (tests_end files result) workspaces ≡ workspaces
tests-keep files (Value (Tests tests)) workspaces = refl
tests-keep files (Value other) workspaces = refl
tests-keep files (Fault code message) workspaces = refl
tests-keep files (Cancelled saw) workspaces = refl
tests-keep files NoMemory workspaces = refl

-- ---- a message

-- a job that is out ends with a result of its kind
result-runs : (turns : ℕ) (workspaces : Workspaces) (n : ℕ) (job : Job) (out : Jobs) (kind : JobKind) (result : JobResult) → job.kind ≡ kind
    → map.get out n ≡ Some job
    → fits_kind kind result ≡ true → RunsTo turns workspaces out (end_kept (work_end_of kind result) workspaces) (map.remove out n)
result-runs turns workspaces n job out (ProcMacroSources files) result its there fit =
    off-runs turns workspaces (end_kept (check_end (value_or_reason result)) workspaces) n job out (check-runs turns (value_or_reason result) workspaces) there
    (ap is_fetch its) (ap is_build its) (ap is_load its)
result-runs turns workspaces n job out (FetchWorkspaces projects detached path force) result its there fit =
    let end = fetch-has-end result fit in
    subst (λ (o : Option WorkEnd). RunsTo turns workspaces out (end_kept o workspaces) (map.remove out n)) (sym end.1)
    (found-runs turns end.0 workspaces n job out there (ap is_fetch its) (ap is_build its) (ap is_load its))
result-runs turns workspaces n job out (FetchBuildData version) result its there fit =
    let end = build-has-end result fit in
    subst (λ (o : Option WorkEnd). RunsTo turns workspaces out (end_kept o workspaces) (map.remove out n)) (sym end.1)
    (made-runs turns end.0 workspaces n job out there (ap is_fetch its) (ap is_build its) (ap is_load its))
result-runs turns workspaces n job out (LoadProcMacros paths ignored) result its there fit =
    let end = load-has-end result fit in
    subst (λ (o : Option WorkEnd). RunsTo turns workspaces out (end_kept o workspaces) (map.remove out n)) (sym end.1)
    (told-runs turns end.0 workspaces n job out there (ap is_fetch its) (ap is_build its) (ap is_load its))
result-runs turns workspaces n job out (job_kinds.Diagnostics generation pass files) result its there fit =
    off-runs turns workspaces (end_kept (lists_end generation pass files result) workspaces) n job out
    (same-runs turns workspaces _ (lists-keep generation pass files result workspaces)) there (ap is_fetch its) (ap is_build its) (ap is_load its)
result-runs turns workspaces n job out (job_kinds.Tests files) result its there fit =
    off-runs turns workspaces (end_kept (tests_end files result) workspaces) n job out
    (same-runs turns workspaces _ (tests-keep files result workspaces)) there (ap is_fetch its) (ap is_build its) (ap is_load its)
result-runs turns workspaces n job out other result its there fit =
    off-runs turns workspaces workspaces n job out (same-runs turns workspaces workspaces refl) there (ap is_fetch its) (ap is_build its) (ap is_load its)

-- a message that fits a job out: it goes on, or it has ended so
body-runs : (turns : ℕ) (workspaces : Workspaces) (n : ℕ) (job : Job) (out : Jobs) (body : TaskBody) → map.get out n ≡ Some job → fits_job job body ≡ true
    → RunsTo turns workspaces out (end_kept (option_and_then (work_end_of job.kind) (final_of body)) workspaces) (without_ended body n out)
body-runs turns workspaces n job out (Final result) there fit = result-runs turns workspaces n job out job.kind result refl there fit
body-runs turns workspaces n job out other there fit = same-runs-to turns workspaces workspaces out (same-runs turns workspaces workspaces refl)

fitting-runs : (turns : ℕ) (message : TaskMsg) (out : Jobs) (workspaces : Workspaces) (o : Option Job) → fitting_job message out ≡ o
    → RunsTo turns workspaces out (end_kept (work_told message o) workspaces) (without_fitting o message out)
fitting-runs turns message out workspaces None is = same-runs-to turns workspaces workspaces out (same-runs turns workspaces workspaces refl)
fitting-runs turns message out workspaces (Some job) is =
    body-runs turns workspaces message.job job out message.body (fit-out message.body (map.get out message.job) job is)
    (fit-fits message.body (map.get out message.job) job is)

-- what is in progress behind a message is out behind it
pub message-runs-to : (turns : ℕ) (message : TaskMsg) (out : Jobs) (workspaces : Workspaces)
    → RunsTo turns workspaces out (end_kept (work_ended message out) workspaces) (jobs_after message out)
message-runs-to turns message out workspaces = fitting-runs turns message out workspaces (fitting_job message out) refl
