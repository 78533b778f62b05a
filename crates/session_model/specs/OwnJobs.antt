-- The jobs that a turn hands over for no request: the work that falls due for the session itself.
use Rattle.std.specs.Prelude.{ℕ, ◌+◌, List, [], ◌∷◌, ◌++◌, map as each, Bool, Option, None, Some, Result, Ok}
use Rattle.std.specs.Prelude.{if◌then◌else◌}
use Rattle.std.specs.Result.{result_unwrap_or}
use Rattle.analysis_host.specs.SnapshotData.{SnapshotData}
use Rattle.method_table.specs.declared.class.PoolClass.{PoolClass}
use Rattle.method_table.specs.declared.class.PoolClass.TheVariants.{Latency, Worker}
use Rattle.session_port.specs.TurnState.{TurnState, and_then}
use Rattle.session_port.specs.declared.command.DeferredTask.{DeferredTask}
use Rattle.session_port.specs.declared.command.DeferredTask.TheVariants.{CheckIfIndexed, CheckProcMacroSources}
use Rattle.session_port.specs.declared.fault.Counter.{Counter}
use Rattle.session_port.specs.declared.job.Job.{Job}
use Rattle.session_port.specs.declared.job.JobKind.{JobKind}
use Rattle.session_port.specs.declared.job.JobKind.TheVariants.{FetchBuildData}
use Rattle.desk.specs.Meaning.{Meaning}
use Rattle.workspaces.specs.Fetches.{fetch_to_start, start_fetch}
use Rattle.workspaces.specs.declared.requests.FetchRequest.{FetchRequest}
use Rattle.session_model.specs.Building.{build_due}
use Rattle.session_model.specs.Checking.{check_kind}
use Rattle.session_model.specs.Diagnosing.{batch_kinds, is_batch_due}
use Rattle.session_model.specs.Fetching.{with_fetches}
use Rattle.session_model.specs.Loading.{MacroPaths, load_due, load_kind, with_due_load}
use Rattle.session_model.specs.Machine.{Turning, begin_part, came_or_went, event_part, files_part, publish_part}
use Rattle.session_model.specs.Machine.{quiet_part}
use Rattle.session_model.specs.Machine.{register_part, status_part}
use Rattle.session_model.specs.Machine.{switch_part, turning, with_workspaces}
use Rattle.session_model.specs.Run.{turn_start}
use Rattle.session_model.specs.State.{State, fetch_kind, may_start, snapshot_of}
use Rattle.session_model.specs.Status.{is_quiescent}
use Rattle.session_model.specs.declared.input.Event.TheVariants.{Deferred}
use Rattle.session_model.specs.declared.input.Input.{Input}
use Rattle.session_model.specs.declared.input.Input.TheVariants.{Start, Next}

-- a job but for its number
pub record OwnJob : Type 0 where
  pub class : PoolClass
  pub kind : JobKind
  pub snapshot : SnapshotData

-- the session's own work is that of a worker, on what a snapshot shows where it is handed over
abbrev pub own_job : State → JobKind → OwnJob
own_job s kind = record { class = Worker; kind = kind; snapshot = snapshot_of s }

-- jobs with the numbers behind so many that were handed over
abbrev pub numbered_behind : ℕ → List OwnJob → List Job
numbered_behind last_job [] = []
numbered_behind last_job (own ∷ later) =
    (record { number = last_job + 1; class = own.class; kind = own.kind; snapshot = own.snapshot })
    ∷ numbered_behind (last_job + 1) later

-- a client waits for what is found out about its documents
abbrev pub awaited_job : State → JobKind → OwnJob
awaited_job s kind = record { class = Latency; kind = kind; snapshot = snapshot_of s }

-- ---- checks of sources that come back

-- each check among tasks that were put off
abbrev pub checks_among_tasks : State → List DeferredTask → List OwnJob
checks_among_tasks s [] = []
checks_among_tasks s (CheckIfIndexed path ∷ tasks) = checks_among_tasks s tasks
checks_among_tasks s (CheckProcMacroSources files ∷ tasks) = own_job s (check_kind (snapshot_of s) files)
    ∷ checks_among_tasks s tasks

-- those that an input brings back
abbrev pub checks_back : State → Input → List OwnJob
checks_back s (Next (Deferred tasks)) = checks_among_tasks s tasks
checks_back s other = []

-- ---- batches

-- what a batch asks of the analysis, one job for each question
abbrev pub batch_jobs : State → List OwnJob
batch_jobs s = each (awaited_job s) (batch_kinds s)

-- where one is due in a session that stands so, by what is known of what was before it
abbrev pub batch_jobs_if : Bool → State → List OwnJob
batch_jobs_if due s = if due then batch_jobs s else []

abbrev pub batch_jobs_due : Input → Turning → List OwnJob
batch_jobs_due Start t = []
batch_jobs_due (Next event) t =
    batch_jobs_if (is_batch_due t.facts.quiescent (is_quiescent t.state.files t.state.workspaces) t.facts.processed
    (came_or_went (Next event))) t.state

-- ---- work that is asked for

-- that of a fetch, of a run of build data and of a load of macros, where one is to start
abbrev pub fetch_job : State → Option (List ℕ × FetchRequest) → List OwnJob
fetch_job s None = []
fetch_job s (Some request) = own_job s (fetch_kind s.client.settings request.1) ∷ []

abbrev pub build_job : State → Option ℕ → List OwnJob
build_job s None = []
build_job s (Some version) = own_job s (FetchBuildData version) ∷ []

abbrev pub load_job : State → Option MacroPaths → List OwnJob
load_job s None = []
load_job s (Some paths) = own_job s (load_kind s.client.settings paths) ∷ []

-- where a session stands so: the fetch that waits, where fetches may start and none is in progress
abbrev pub fetch_jobs : Input → State → List OwnJob
fetch_jobs input s = fetch_job s (fetch_to_start (may_start input s.client.settings) s.workspaces.fetches)

-- and once that has started: the build data that is asked for, or else macros, where no fetch is in progress; a load is
-- in
-- progress where it is handed over
abbrev pub run_jobs : State → List OwnJob
run_jobs s =
    let build = build_due s.workspaces in
    build_job s build ++ load_job (with_workspaces (with_due_load build s.workspaces) s) (load_due build s.workspaces)

-- the start begins no run
abbrev pub run_jobs_behind : Input → State → List OwnJob
run_jobs_behind Start s = []
run_jobs_behind (Next event) s = run_jobs s

abbrev pub jobs_due : Input → State → List OwnJob
jobs_due input s =
    fetch_jobs input s ++ run_jobs_behind input
    (with_workspaces (with_fetches (start_fetch (may_start input s.client.settings)) s.workspaces) s)

-- ---- of a turn

-- the parts of a turn before its fetch
abbrev pub parts_before_fetch : Meaning → Input → TurnState Turning → Result (TurnState Turning) Counter
parts_before_fetch meaning Start w = and_then (status_part w) (λ w. and_then (register_part w) begin_part)
parts_before_fetch meaning (Next event) w =
    and_then (event_part meaning event w) (λ w.
    and_then (switch_part w) (λ w. and_then (files_part w) (λ w. and_then (quiet_part (Next event) w) publish_part)))

-- and before what is done in a session that is quiescent
abbrev pub parts_before_quiet : Meaning → Input → TurnState Turning → Result (TurnState Turning) Counter
parts_before_quiet meaning Start w = Ok w
parts_before_quiet meaning (Next event) w =
    and_then (event_part meaning event w) (λ w. and_then (switch_part w) files_part)

-- where the session stands then; as before the turn, where a counter is at its end
abbrev pub before_fetch : Meaning → Input → State → State
before_fetch meaning input s =
    (result_unwrap_or (parts_before_fetch meaning input (turning (turn_start s))) (turning (turn_start s))).state.state

-- and where it stands before what is done in a session that is quiescent, with what is known of what was before
abbrev pub before_quiet : Meaning → Input → State → Turning
before_quiet meaning input s =
    (result_unwrap_or (parts_before_quiet meaning input (turning (turn_start s))) (turning (turn_start s))).state

-- the jobs of a turn that are for no request, in order
abbrev pub own_jobs : Meaning → Input → State → List OwnJob
own_jobs meaning input s =
    checks_back s input ++ batch_jobs_due input (before_quiet meaning input s)
    ++ jobs_due input (before_fetch meaning input s)
