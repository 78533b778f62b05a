-- The jobs out behind a turn find diagnostics of no later generation than the last one, in files that have paths.
use Rattle.std.proofs.Common.{◌≡◌, ℕ, zero, suc, ◌+◌, ◌≤◌, List, [], ◌∷◌, ◌++◌, Bool, true, false, refl, sym, ap, ◌∙◌, subst, arith}
use Rattle.std.specs.Prelude.{map as each, Option, None, Some, is_some, cond, if◌then◌else◌}
use Rattle.std.specs.List.{cons_option, filter_map, flat_map}
use Rattle.std.specs.Cmp.{nat_cmp_total}
use Rattle.std.specs.Ordering.{eq_by_cmp, nat_cmp}
use Rattle.std.specs.FinMap as map
use Rattle.docs_vfs.specs.Files.{Files}
use Rattle.docs_vfs.specs.declared.file_kinds.FileExcluded.{FileExcluded}
use Rattle.docs_vfs.specs.declared.file_kinds.FileExcluded.TheVariants.{No, Yes}
use Rattle.docs_vfs.specs.declared.file_kinds.FileId.{FileId}
use Rattle.op_board.specs.Board.{next_generation}
use Rattle.session_port.specs.Jobs.{Jobs, after_batch, jobs_after}
use Rattle.session_port.specs.Kinds.{ticket_of_job}
use Rattle.session_port.specs.Record.{with_jobs}
use Rattle.session_port.specs.declared.command.DeferredTask.{DeferredTask}
use Rattle.session_port.specs.declared.command.DeferredTask.TheVariants.{CheckIfIndexed, CheckProcMacroSources}
use Rattle.session_port.specs.declared.event.TaskMsg.{TaskMsg}
use Rattle.session_port.specs.declared.job.Job.{Job}
use Rattle.session_port.specs.declared.job.JobKind.{JobKind}
use Rattle.session_port.specs.declared.job.JobKind.TheVariants as kinds
use Rattle.desk.specs.Folds.{asked_among, is_for_request}
use Rattle.session_files.specs.Current.{IsSound}
use Rattle.session_files.specs.SessionFiles.{SessionFiles}
use Rattle.session_model.specs.Building.{build_due}
use Rattle.session_model.specs.Crates.{file_of, loaded_as}
use Rattle.session_model.specs.Diagnosing.{batch_kinds, is_local_path, list_kinds, lists_asked, shown_file, shows_diagnostics, slice_count}
use Rattle.session_model.specs.Diagnosing.{slice_kinds, slices, subscribed, tests_asked}
use Rattle.session_model.specs.Fetching.{with_fetches}
use Rattle.session_model.specs.Loading.{MacroPaths, load_due, with_due_load}
use Rattle.session_model.specs.Machine.{with_workspaces}
use Rattle.session_model.specs.OwnJobs.{OwnJob, awaited_job, batch_jobs_if, build_job, checks_among_tasks, checks_back, fetch_job, jobs_due, load_job}
use Rattle.session_model.specs.OwnJobs.{numbered_behind, run_jobs, run_jobs_behind}
use Rattle.session_model.specs.State.{State, may_start}
use Rattle.session_model.specs.declared.input.Event.TheVariants.{Deferred, Lsp, News, Task, Timer, Vfs}
use Rattle.session_model.specs.declared.input.Input.{Input}
use Rattle.session_model.specs.declared.input.Input.TheVariants.{Next, Start}
use Rattle.workspaces.specs.Fetches.{fetch_to_start, start_fetch}
use Rattle.workspaces.specs.declared.requests.FetchRequest.{FetchRequest}
use Rattle.session_laws.proofs.Slicing.{slices-join}
use Rattle.diagnostics_laws.proofs.KeyedBools.{none-some, some-is, true-false}
use Rattle.diagnostics_laws.proofs.Messages.{known-by}
use Rattle.diagnostics_laws.proofs.MessagesEnds.{AreKnown, JobsFit}
use Rattle.diagnostics_laws.proofs.Sounding.{AreAmong}
use Rattle.diagnostics_laws.proofs.SoundingDesk.{after-among}
use Rattle.diagnostics_laws.proofs.StoringGenerations.{Grows}

-- ---- kinds that fit

-- a job that finds diagnostics is of no later generation than this, and its files have paths
abbrev pub KindFits : ℕ → Files → JobKind → Type 0
KindFits most table (kinds.Diagnostics generation pass files) = (generation ≤ most) × AreKnown table files
KindFits most table kind = Unit {0}

known-grown : (t u : Files) (files : List FileId) → Grows t u → AreKnown t files → AreKnown u files
known-grown t u [] grows h = tt
known-grown t u (file ∷ files) grows h = ((h.0.0, grows file h.0.0 h.0.1), known-grown t u files grows h.1)

at-most : (a b c : ℕ) → a ≤ b → b ≤ c → a ≤ c
at-most a b c p q = omega (arith, p, q)

kind-grown : (least most : ℕ) (t u : Files) (kind : JobKind) → least ≤ most → Grows t u → KindFits least t kind → KindFits most u kind
kind-grown least most t u (kinds.Diagnostics g pass files) more grows h = (at-most g least most h.0 more, known-grown t u files grows h.1)
kind-grown least most t u (kinds.Request ticket row params) more grows h = tt
kind-grown least most t u (kinds.Part ticket part row params files) more grows h = tt
kind-grown least most t u (kinds.Tests files) more grows h = tt
kind-grown least most t u (kinds.Indexed file path) more grows h = tt
kind-grown least most t u (kinds.ProcMacroSources files) more grows h = tt
kind-grown least most t u (kinds.CheckScope file path) more grows h = tt
kind-grown least most t u kinds.Prime more grows h = tt
kind-grown least most t u (kinds.FetchWorkspaces projects detached path force) more grows h = tt
kind-grown least most t u (kinds.FetchBuildData version) more grows h = tt
kind-grown least most t u (kinds.LoadProcMacros paths ignored) more grows h = tt

abbrev OutFit : ℕ → Files → Jobs → Type 0
OutFit most table jobs = (number : ℕ) (job : Job) → map.get jobs number ≡ Some job → KindFits most table job.kind

by-kind : (most : ℕ) (table : Files) (jobs : Jobs) (number : ℕ) (job : Job) (kind : JobKind) → JobsFit most table jobs
    → map.get jobs number ≡ Some job
    → job.kind ≡ kind → KindFits most table kind
by-kind most table jobs number job (kinds.Diagnostics g pass files) h is kind = h number job g pass files is kind
by-kind most table jobs number job (kinds.Request ticket row params) h is kind = tt
by-kind most table jobs number job (kinds.Part ticket part row params files) h is kind = tt
by-kind most table jobs number job (kinds.Tests files) h is kind = tt
by-kind most table jobs number job (kinds.Indexed file path) h is kind = tt
by-kind most table jobs number job (kinds.ProcMacroSources files) h is kind = tt
by-kind most table jobs number job (kinds.CheckScope file path) h is kind = tt
by-kind most table jobs number job kinds.Prime h is kind = tt
by-kind most table jobs number job (kinds.FetchWorkspaces projects detached path force) h is kind = tt
by-kind most table jobs number job (kinds.FetchBuildData version) h is kind = tt
by-kind most table jobs number job (kinds.LoadProcMacros paths ignored) h is kind = tt

-- ---- lists of jobs

abbrev pub AllJobsFit : ℕ → Files → List Job → Type 0
AllJobsFit most table [] = Unit {0}
AllJobsFit most table (job ∷ jobs) = KindFits most table job.kind × AllJobsFit most table jobs

abbrev pub OwnFit : ℕ → Files → List OwnJob → Type 0
OwnFit most table [] = Unit {0}
OwnFit most table (own ∷ jobs) = KindFits most table own.kind × OwnFit most table jobs

abbrev KindsFit : ℕ → Files → List JobKind → Type 0
KindsFit most table [] = Unit {0}
KindsFit most table (kind ∷ kinds) = KindFits most table kind × KindsFit most table kinds

jobs-append : (most : ℕ) (table : Files) (js ks : List Job) → AllJobsFit most table js → AllJobsFit most table ks → AllJobsFit most table (js ++ ks)
jobs-append most table [] ks h k = k
jobs-append most table (job ∷ js) ks h k = (h.0, jobs-append most table js ks h.1 k)

own-append : (most : ℕ) (table : Files) (js ks : List OwnJob) → OwnFit most table js → OwnFit most table ks → OwnFit most table (js ++ ks)
own-append most table [] ks h k = k
own-append most table (job ∷ js) ks h k = (h.0, own-append most table js ks h.1 k)

kinds-append : (most : ℕ) (table : Files) (js ks : List JobKind) → KindsFit most table js → KindsFit most table ks → KindsFit most table (js ++ ks)
kinds-append most table [] ks h k = k
kinds-append most table (kind ∷ js) ks h k = (h.0, kinds-append most table js ks h.1 k)

numbered-fit : (most : ℕ) (table : Files) (given : ℕ) (own : List OwnJob) → OwnFit most table own → AllJobsFit most table (numbered_behind given own)
numbered-fit most table given [] h = tt
numbered-fit most table given (first ∷ own) h = (h.0, numbered-fit most table (given + 1) own h.1)

awaited-fit : (most : ℕ) (table : Files) (s : State) (kinds : List JobKind) → KindsFit most table kinds
    → OwnFit most table (each (awaited_job s) kinds)
awaited-fit most table s [] h = tt
awaited-fit most table s (kind ∷ kinds) h = (h.0, awaited-fit most table s kinds h.1)

-- jobs for requests find no diagnostics
request-fits : (most : ℕ) (table : Files) (kind : JobKind) → is_some (ticket_of_job kind) ≡ true → KindFits most table kind
request-fits most table (kinds.Diagnostics g pass files) h = true-false (sym h)
request-fits most table (kinds.Request ticket row params) h = tt
request-fits most table (kinds.Part ticket part row params files) h = tt
request-fits most table (kinds.Tests files) h = tt
request-fits most table (kinds.Indexed file path) h = tt
request-fits most table (kinds.ProcMacroSources files) h = tt
request-fits most table (kinds.CheckScope file path) h = tt
request-fits most table kinds.Prime h = tt
request-fits most table (kinds.FetchWorkspaces projects detached path force) h = tt
request-fits most table (kinds.FetchBuildData version) h = tt
request-fits most table (kinds.LoadProcMacros paths ignored) h = tt

kept-fit : (most : ℕ) (table : Files) (b : Bool) (job : Job) (jobs : List Job) → is_for_request job ≡ b → AllJobsFit most table jobs
    → AllJobsFit most table (cond b (job ∷ jobs) jobs)
kept-fit most table true job jobs is h = (request-fits most table job.kind is, h)
kept-fit most table false job jobs is h = h

asked-fit : (most : ℕ) (table : Files) (jobs : List Job) → AllJobsFit most table (asked_among jobs)
asked-fit most table [] = tt
asked-fit most table (job ∷ jobs) = kept-fit most table (is_for_request job) job (asked_among jobs) refl (asked-fit most table jobs)

-- ---- a batch

AllKnown : Files → List (List FileId) → Type 0
AllKnown table [] = Unit {0}
AllKnown table (slice ∷ slices) = AreKnown table slice × AllKnown table slices

first-known : (table : Files) (xs ys : List FileId) → AreKnown table (xs ++ ys) → AreKnown table xs
first-known table [] ys h = tt
first-known table (x ∷ xs) ys h = (h.0, first-known table xs ys h.1)

later-known : (table : Files) (xs ys : List FileId) → AreKnown table (xs ++ ys) → AreKnown table ys
later-known table [] ys h = h
later-known table (x ∷ xs) ys h = later-known table xs ys h.1

joined-known : (table : Files) (lists : List (List FileId)) → AreKnown table (flat_map (λ slice. slice) lists) → AllKnown table lists
unfolding AllKnown
joined-known table [] h = tt
joined-known table (slice ∷ lists) h =
    (first-known table slice _ h, joined-known table lists (later-known table slice (flat_map (λ slice. slice) lists) h))

slices-known : (table : Files) (count : ℕ) (files : List FileId) → AreKnown table files → AllKnown table (slices count files)
unfolding AllKnown
slices-known table zero files h = tt
slices-known table (suc others) files h =
    joined-known table (slices (suc others) files) (subst (AreKnown table) (sym (slices-join others files)) h)

slice-fits : (most : ℕ) (table : Files) (g : ℕ) (fetched : Bool) (files : List FileId) → g ≤ most → AreKnown table files
    → KindsFit most table (slice_kinds g fetched files)
slice-fits most table g true files low known = ((low, known), ((low, known), tt))
slice-fits most table g false files low known = ((low, known), tt)

lists-fit : (most : ℕ) (table : Files) (g : ℕ) (fetched : Bool) (lists : List (List FileId)) → g ≤ most → AllKnown table lists
    → KindsFit most table (list_kinds g fetched lists)
unfolding AllKnown
lists-fit most table g fetched [] low h = tt
lists-fit most table g fetched (files ∷ lists) low h =
    kinds-append most table (slice_kinds g fetched files) (list_kinds g fetched lists) (slice-fits most table g fetched files low h.0)
    (lists-fit most table g fetched lists low h.1)

tests-fit : (most : ℕ) (table : Files) (files : List FileId) → KindsFit most table (tests_asked files)
tests-fit most table [] = tt
tests-fit most table (file ∷ files) = (tt, tt)

file-is : (o : Option (FileId × FileExcluded)) (file : FileId) → file_of o ≡ Some file → o ≡ Some (file, No)
file-is None file is = none-some file is
file-is (Some (other, Yes)) file is = none-some file is
file-is (Some (other, No)) file is = ap (λ f. Some (f, No)) (some-is other file is)

shown-known : (files : SessionFiles) (path : List ℕ) (o : Option FileId) (more : List FileId) → IsSound files → shown_file files path ≡ o
    → AreKnown files.table more → AreKnown files.table (cons_option o more)
shown-known files path None more sound is h = h
shown-known files path (Some file) more sound is h =
    ((path, known-by files path (file, No) sound (by-local (is_local_path files.host.world.roots path) is)), h)
  where
    by-local : (b : Bool) → (if b then loaded_as files.ids path else None) ≡ Some file → map.get files.ids path ≡ Some (file, No)
    by-local true is = file-is (map.get files.ids path) file is
    by-local false is = none-some file is

paths-known : (files : SessionFiles) (paths : List (List ℕ)) → IsSound files → AreKnown files.table (filter_map (shown_file files) paths)
paths-known files [] sound = tt
paths-known files (path ∷ paths) sound =
    shown-known files path (shown_file files path) (filter_map (shown_file files) paths) sound refl (paths-known files paths sound)

-- the files that are shown have paths
pub subscribed-known : (files : SessionFiles) → IsSound files → AreKnown files.table (subscribed files)
unfolding subscribed
subscribed-known files sound = paths-known files (map.keys files.versions) sound

-- a generation that is given is no later than this
abbrev pub GivenFits : ℕ → Option ℕ → Type 0
GivenFits most None = Unit {0}
GivenFits most (Some generation) = generation ≤ most

lists-asked-fit : (most : ℕ) (o : Option ℕ) (s : State) → IsSound s.files → GivenFits most o → KindsFit most s.files.table (lists_asked o s)
lists-asked-fit most None s sound fits = tt
lists-asked-fit most (Some g) s sound fits =
    lists-fit most s.files.table g (is_some s.workspaces.fetches.queue.last) (slices (slice_count s.client.settings) (subscribed s.files)) fits
    (slices-known s.files.table (slice_count s.client.settings) (subscribed s.files) (subscribed-known s.files sound))

kinds-if : (most : ℕ) (table : Files) (b : Bool) (kinds : List JobKind) → (b ≡ true → KindsFit most table kinds)
    → KindsFit most table (if b then kinds else [])
kinds-if most table true kinds h = h refl
kinds-if most table false kinds h = tt

batch-kinds-fit : (most : ℕ) (s : State) → IsSound s.files → (shows_diagnostics s.client.settings ≡ true → GivenFits most (next_generation s.board))
    → KindsFit most s.files.table (batch_kinds s)
unfolding batch_kinds
batch-kinds-fit most s sound fits =
    kinds-append most s.files.table (if shows_diagnostics s.client.settings then lists_asked (next_generation s.board) s else [])
    (if s.client.settings.capabilities.test_explorer then tests_asked (subscribed s.files) else [])
    (kinds-if most s.files.table (shows_diagnostics s.client.settings) (lists_asked (next_generation s.board) s)
    (λ shows. lists-asked-fit most (next_generation s.board) s sound (fits shows)))
    (kinds-if most s.files.table s.client.settings.capabilities.test_explorer (tests_asked (subscribed s.files))
    (λ explores. tests-fit most s.files.table (subscribed s.files)))

pub batch-fits : (most : ℕ) (due : Bool) (s : State) → IsSound s.files
    → (due ≡ true → shows_diagnostics s.client.settings ≡ true → GivenFits most (next_generation s.board))
    → OwnFit most s.files.table (batch_jobs_if due s)
batch-fits most true s sound fits = awaited-fit most s.files.table s (batch_kinds s) (batch-kinds-fit most s sound (fits refl))
batch-fits most false s sound fits = tt

-- ---- work of other kinds

checks-fit : (most : ℕ) (table : Files) (s : State) (tasks : List DeferredTask) → OwnFit most table (checks_among_tasks s tasks)
checks-fit most table s [] = tt
checks-fit most table s (CheckIfIndexed path ∷ tasks) = checks-fit most table s tasks
checks-fit most table s (CheckProcMacroSources files ∷ tasks) = (tt, checks-fit most table s tasks)

back-fits : (most : ℕ) (table : Files) (s : State) (input : Input) → OwnFit most table (checks_back s input)
back-fits most table s Start = tt
back-fits most table s (Next (Deferred tasks)) = checks-fit most table s tasks
back-fits most table s (Next (Lsp message)) = tt
back-fits most table s (Next (Task batch)) = tt
back-fits most table s (Next (Vfs messages)) = tt
back-fits most table s (Next (News news)) = tt
back-fits most table s (Next (Timer ticket)) = tt

fetch-fits : (most : ℕ) (table : Files) (s : State) (o : Option (List ℕ × FetchRequest)) → OwnFit most table (fetch_job s o)
fetch-fits most table s None = tt
fetch-fits most table s (Some request) = (tt, tt)

build-fits : (most : ℕ) (table : Files) (s : State) (o : Option ℕ) → OwnFit most table (build_job s o)
build-fits most table s None = tt
build-fits most table s (Some version) = (tt, tt)

load-fits : (most : ℕ) (table : Files) (s : State) (o : Option MacroPaths) → OwnFit most table (load_job s o)
load-fits most table s None = tt
load-fits most table s (Some paths) = (tt, tt)

runs-fit : (most : ℕ) (table : Files) (s : State) → OwnFit most table (run_jobs s)
runs-fit most table s =
    own-append most table (build_job s (build_due s.workspaces))
    (load_job (with_workspaces (with_due_load (build_due s.workspaces) s.workspaces) s) (load_due (build_due s.workspaces) s.workspaces))
    (build-fits most table s (build_due s.workspaces))
    (load-fits most table (with_workspaces (with_due_load (build_due s.workspaces) s.workspaces) s) (load_due (build_due s.workspaces) s.workspaces))

behind-fit : (most : ℕ) (table : Files) (input : Input) (s : State) → OwnFit most table (run_jobs_behind input s)
behind-fit most table Start s = tt
behind-fit most table (Next event) s = runs-fit most table s

due-fit : (most : ℕ) (table : Files) (input : Input) (s : State) → OwnFit most table (jobs_due input s)
due-fit most table input s =
    let may : Bool = may_start input s.client.settings in
    let begun : State = with_workspaces (with_fetches (start_fetch may) s.workspaces) s in
    own-append most table (fetch_job s (fetch_to_start may s.workspaces.fetches)) (run_jobs_behind input begun)
    (fetch-fits most table s (fetch_to_start may s.workspaces.fetches)) (behind-fit most table input begun)

-- ---- jobs out

-- all that a turn hands over fits, where its batch does
pub own-fits : (most : ℕ) (table : Files) (input : Input) (s before : State) (batch : List OwnJob) → OwnFit most table batch
    → OwnFit most table (checks_back s input ++ batch ++ jobs_due input before)
own-fits most table input s before batch h =
    own-append most table (checks_back s input ++ batch) (jobs_due input before)
    (own-append most table (checks_back s input) batch (back-fits most table s input) h) (due-fit most table input before)

put-by : (most : ℕ) (table : Files) (b : Bool) (old : Option Job) (new job : Job) → KindFits most table new.kind
    → (old ≡ Some job → KindFits most table job.kind)
    → cond b (Some new) old ≡ Some job → KindFits most table job.kind
put-by most table true old new job fit h is = subst (λ (j : Job). KindFits most table j.kind) (some-is new job is) fit
put-by most table false old new job fit h is = h is

with-fit : (most : ℕ) (table : Files) (jobs : List Job) (out : Jobs) → AllJobsFit most table jobs → OutFit most table out
    → OutFit most table (with_jobs jobs out)
with-fit most table [] out fits h = h
with-fit most table (first ∷ jobs) out fits h =
    with-fit most table jobs (map.insert out first.number first) fits.1
    (λ number job is. put-by most table (eq_by_cmp nat_cmp number first.number) (map.get out number) first job fits.0 (h number job)
    (sym (map.get-insert nat_cmp_total out first.number first number) ∙ is))

batch-among : (messages : List TaskMsg) (out : Jobs) → AreAmong (after_batch messages out) out
batch-among [] out = λ number job is. is
batch-among (message ∷ messages) out = λ number job is.
    after-among message out number job (batch-among messages (jobs_after message out) number job is)

pub out-fits : (least most : ℕ) (t u : Files) (messages : List TaskMsg) (asked : List Job) (all : List Job) (given : ℕ) (own : List OwnJob)
    (out : Jobs)
    → asked ≡ asked_among all → least ≤ most → Grows t u → JobsFit least t out → OwnFit most u own
    → JobsFit most u (with_jobs (asked ++ numbered_behind given own) (after_batch messages out))
out-fits least most t u messages asked all given own out is more grows fit owns = λ number job g pass files there kind.
    subst (KindFits most u) kind
    (with-fit most u (asked ++ numbered_behind given own) (after_batch messages out)
    (jobs-append most u asked (numbered_behind given own) (subst (AllJobsFit most u) (sym is) (asked-fit most u all))
    (numbered-fit most u given own owns))
    (λ number job there. kind-grown least most t u job.kind more grows
    (by-kind least t out number job job.kind fit (batch-among messages out number job there) refl))
    number job there)
