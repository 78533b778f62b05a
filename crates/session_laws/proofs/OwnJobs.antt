-- The jobs that a turn hands over: those of its row, and then the session's own.
use Rattle.std.proofs.Common.{◌≡◌, ℕ, ◌+◌, List, [], ◌∷◌, ◌++◌, length, Bool, refl, sym, ap, ◌∙◌, subst, arith}
use Rattle.std.proofs.lemmas.List.{append-nil, append_assoc, length-append}
use Rattle.std.specs.Prelude.{◌==◌, map, true, false, Option, None, Some, is_some, Result, Ok, Err, IfOk, if◌then◌else◌}
use Rattle.std.specs.Result.{result_unwrap_or}
use Rattle.client.specs.Steps.{asked_for}
use Rattle.client.specs.declared.handler.ReqHandler.{ReqHandler}
use Rattle.client.specs.declared.handler.ReqHandler.TheVariants.{Ignore}
use Rattle.lsp_frame.specs.Outgoing.{Outgoing, number_limit}
use Rattle.method_table.specs.declared.class.PoolClass.{PoolClass}
use Rattle.method_table.specs.declared.class.PoolClass.TheVariants.{Latency, Worker}
use Rattle.notify.specs.declared.outgo.Outgo.{Outgo}
use Rattle.notify.specs.declared.outgo.Outgo.TheVariants.{CodeLensRefresh, DiagnosticRefresh, InlayHintRefresh, SemanticTokensRefresh}
use Rattle.op_board.specs.Acts.{step as after_act}
use Rattle.op_board.specs.Acts.Act.{Counts}
use Rattle.op_board.specs.Board.{Board, next_generation}
use Rattle.op_board.specs.Checks.{Checks, all_fixes}
use Rattle.session_port.specs.Record.{spawned}
use Rattle.session_port.specs.TurnState.{TurnState, and_then, ordered, written}
use Rattle.session_port.specs.declared.command.DeferredTask.{DeferredTask}
use Rattle.session_port.specs.declared.command.DeferredTask.TheVariants.{CheckIfIndexed, CheckProcMacroSources}
use Rattle.session_port.specs.declared.fault.Counter.{Counter}
use Rattle.session_port.specs.declared.fault.Counter.TheVariants.{Jobs as JobsCounter}
use Rattle.session_port.specs.declared.job.Job.{Job}
use Rattle.session_port.specs.declared.job.JobKind.{JobKind}
use Rattle.session_port.specs.declared.job.JobKind.TheVariants.{FetchBuildData}
use Rattle.activities.specs.declared.activities.Activities.{Activities}
use Rattle.desk.specs.Desk.{Desk}
use Rattle.desk.specs.Meaning.{Meaning}
use Rattle.desk.specs.Steps.{handed_over}
use Rattle.desk_laws.proofs.Appends.{spawned-append}
use Rattle.desk_laws.proofs.Results.{IfOk-and_then, IfOk-next, IfOk-weaker, IfOk-within}
use Rattle.session_laws.proofs.Announcing.{Announces}
use Rattle.workspaces.specs.Fetches.{fetch_to_start, start_fetch}
use Rattle.workspaces.specs.Workspaces.{Workspaces}
use Rattle.workspaces.specs.declared.requests.FetchRequest.{FetchRequest}
use Rattle.session_model.specs.Building.{build_due, with_due_build}
use Rattle.session_model.specs.Checking.{check_kind}
use Rattle.session_model.specs.Diagnosing.{batch_counted, batch_kinds, is_batch_due, lists_asked, shows_diagnostics, subscribed, tests_asked}
use Rattle.session_model.specs.Asking.{is_refresh_due}
use Rattle.session_model.specs.Fetching.{with_fetches}
use Rattle.session_model.specs.Loading.{MacroPaths, load_due, load_kind, with_due_load}
use Rattle.session_model.specs.Machine.{all_asked, asked_if, at_board, batch_asked, batch_done, client_in, client_refreshed, refreshes_done, with_client}
use Rattle.session_model.specs.Machine.{Turning, all_resumed, at_desk, at_workspaces, build_handed_over, build_part, build_started, closing_part, desk_in}
use Rattle.session_model.specs.Machine.{event_part, begin_part, fetch_handed_over, fetch_part, fetch_started, files_part, load_handed_over, load_started}
use Rattle.session_model.specs.Machine.{prime_part, publish_part, quiet_part, register_part, resumed, runs_started, state_in, status_part, step, switch_part}
use Rattle.session_model.specs.Machine.{turned, turning, with_desk, with_state, with_workspaces}
use Rattle.session_model.specs.OwnJobs.{awaited_job, batch_jobs, batch_jobs_if, before_quiet, parts_before_quiet}
use Rattle.session_model.specs.OwnJobs.{OwnJob, before_fetch, build_job, checks_among_tasks, fetch_job, load_job, numbered_behind, own_job, parts_before_fetch}
use Rattle.session_model.specs.OwnJobs.{run_jobs}
use Rattle.session_model.specs.Run.{turn_start}
use Rattle.session_model.specs.State.{State, fetch_kind, may_start, snapshot_of}
use Rattle.session_model.specs.Status.{is_quiescent}
use Rattle.session_model.specs.declared.facts.FactsBefore.{FactsBefore}
use Rattle.session_model.specs.declared.input.Event.{Event}
use Rattle.session_model.specs.declared.input.Input.{Input}
use Rattle.session_model.specs.declared.input.Input.TheVariants.{Start, Next}

-- ---- jobs that are handed over, one after another

-- behind these jobs, and so many that were given, these were handed over, with the next numbers
pub record HandedOver (jobs : List Job) (given : ℕ) (own : List OwnJob) (v : TurnState State) : Type 0 where
  pub spawns : spawned v.out.commands ≡ jobs ++ numbered_behind given own
  pub last_job : v.state.desk.last_job ≡ given + length own

-- between these two
abbrev pub HandsOver : TurnState State → List OwnJob → TurnState State → Type 0
HandsOver w own v = HandedOver (spawned w.out.commands) w.state.desk.last_job own v

pub plus-none : (n : ℕ) → n ≡ n + 0
plus-none n = omega arith

plus-one : (n : ℕ) (own : OwnJob) → n + 1 ≡ n + length (own ∷ [])
plus-one n own = omega arith

pub hands-none : (w v : TurnState State) → spawned v.out.commands ≡ spawned w.out.commands → v.state.desk ≡ w.state.desk → HandsOver w [] v
hands-none w v spawns desk = record { spawns = spawns ∙ sym (append-nil _); last_job = ap (λ (d : Desk). d.last_job) desk ∙ plus-none w.state.desk.last_job }

plus-first : (n : ℕ) (own : OwnJob) (first : List OwnJob) → n + 1 + length first ≡ n + length (own ∷ first)
plus-first n own first = omega arith

numbered-append : (given : ℕ) (first later : List OwnJob) → numbered_behind given (first ++ later) ≡ numbered_behind given first ++ numbered_behind
    (given + length first) later
numbered-append given [] later = ap (λ n. numbered_behind n later) (plus-none given)
numbered-append given (own ∷ first) later =
    ap (λ (js : List Job). (record { number = given + 1; class = own.class; kind = own.kind; snapshot = own.snapshot }) ∷ js)
    (numbered-append (given + 1) first later ∙ ap (λ n. numbered_behind (given + 1) first ++ numbered_behind n later) (plus-first given own first))

pub hands-on : (jobs : List Job) (given : ℕ) (first later : List OwnJob) (v u : TurnState State) → HandedOver jobs given first v → HandsOver v later u
    → HandedOver jobs given (first ++ later) u
hands-on jobs given first later v u p q = record {
  spawns = q.spawns ∙ ap (λ (js : List Job). js ++ numbered_behind v.state.desk.last_job later) p.spawns
      ∙ append_assoc jobs (numbered_behind given first) (numbered_behind v.state.desk.last_job later)
      ∙ ap (λ n. jobs ++ (numbered_behind given first ++ numbered_behind n later)) p.last_job
      ∙ ap (λ (js : List Job). jobs ++ js) (sym (numbered-append given first later));
  last_job = omega (arith, p.last_job, q.last_job, length-append first later);
}

-- one job
abbrev job_as : PoolClass → State → JobKind → OwnJob
job_as class s kind = record { class = class; kind = kind; snapshot = snapshot_of s }

one-as : (class : PoolClass) (kind : JobKind) (w : TurnState State) → IfOk (at_desk (handed_over (snapshot_of w.state) class kind) w)
    (λ v. HandsOver w (job_as class w.state kind ∷ []) v × (v.state ≡ with_desk v.state.desk w.state))
unfolding ordered
one-as class kind w =
    let Done : TurnState State → Type 0 = λ v. HandsOver w (job_as class w.state kind ∷ []) v × (v.state ≡ with_desk v.state.desk w.state) in
    IfOk-within desk_in with_desk (handed_over (snapshot_of w.state) class kind) w Done
    (IfOk-next w.state.desk.last_job JobsCounter _ (λ v. Done (record { state = with_desk v.state w.state; out = v.out }))
    (record { spawns = spawned-append w.out.commands _; last_job = plus-one w.state.desk.last_job (job_as class w.state kind) }, refl))

one-over : (kind : JobKind) (w : TurnState State) → IfOk (at_desk (handed_over (snapshot_of w.state) Worker kind) w)
    (λ v. HandsOver w (own_job w.state kind ∷ []) v × (v.state ≡ with_desk v.state.desk w.state))
one-over kind w = one-as Worker kind w

-- ---- checks that come back

pub checks-same : (desk : Desk) (s : State) (tasks : List DeferredTask) → checks_among_tasks (with_desk desk s) tasks ≡ checks_among_tasks s tasks
checks-same desk s [] = refl
checks-same desk s (CheckIfIndexed path ∷ tasks) = checks-same desk s tasks
checks-same desk s (CheckProcMacroSources files ∷ tasks) =
    ap (λ (own : List OwnJob). own_job s (check_kind (snapshot_of s) files) ∷ own) (checks-same desk s tasks)

pub checks-over : (tasks : List DeferredTask) (w : TurnState State) → IfOk (all_resumed tasks w) (HandsOver w (checks_among_tasks w.state tasks))
unfolding resumed
checks-over [] w = hands-none w w refl refl
checks-over (CheckIfIndexed path ∷ tasks) w = checks-over tasks w
checks-over (CheckProcMacroSources files ∷ tasks) w =
    let kind : JobKind = check_kind (snapshot_of w.state) files in
    let first : OwnJob = own_job w.state kind in
    IfOk-and_then (at_desk (handed_over (snapshot_of w.state) Worker kind) w) (all_resumed tasks)
    (λ v. HandsOver w (first ∷ []) v × (v.state ≡ with_desk v.state.desk w.state))
    (HandsOver w (first ∷ checks_among_tasks w.state tasks)) (one-over kind w)
    (λ v (hands, state). IfOk-weaker (all_resumed tasks v) (HandsOver v (checks_among_tasks v.state tasks)) _ (checks-over tasks v)
    (λ u more. hands-on (spawned w.out.commands) w.state.desk.last_job (first ∷ []) (checks_among_tasks w.state tasks) v u hands
    (subst (λ (own : List OwnJob). HandsOver v own u) (ap (λ (s : State). checks_among_tasks s tasks) state ∙ checks-same v.state.desk w.state tasks) more)))

-- ---- batches

awaited-same : (s t : State) (kinds : List JobKind) → snapshot_of s ≡ snapshot_of t → map (awaited_job s) kinds ≡ map (awaited_job t) kinds
awaited-same s t [] same = refl
awaited-same s t (kind ∷ kinds) same =
    λ i. (record { class = Latency; kind = kind; snapshot = same i }) ∷ awaited-same s t kinds same i

asked-over : (kinds : List JobKind) (w : TurnState State) → IfOk (all_asked kinds w) (HandsOver w (map (awaited_job w.state) kinds))
unfolding all_asked
asked-over [] w = hands-none w w refl refl
asked-over (kind ∷ kinds) w =
    let first : OwnJob = awaited_job w.state kind in
    let later : List OwnJob = map (awaited_job w.state) kinds in
    IfOk-and_then (at_desk (handed_over (snapshot_of w.state) Latency kind) w) (all_asked kinds)
    (λ v. HandsOver w (first ∷ []) v × (v.state ≡ with_desk v.state.desk w.state)) (HandsOver w (first ∷ later)) (one-as Latency kind w)
    (λ v (hands, state). IfOk-weaker (all_asked kinds v) (HandsOver v (map (awaited_job v.state) kinds)) _ (asked-over kinds v)
    (λ u more. hands-on (spawned w.out.commands) w.state.desk.last_job (first ∷ []) later v u hands
    (subst (λ (own : List OwnJob). HandsOver v own u) (awaited-same v.state w.state kinds (ap snapshot_of state)) more)))

-- a batch leaves what checks have found
checks-counted : (shown left : Bool) (board : Board) → (if shown then (if left then after_act Counts board else board) else board).checks ≡ board.checks
checks-counted true true board = refl
checks-counted true false board = refl
checks-counted false left board = refl

batch-over : (w : TurnState State) → IfOk (batch_asked w) (HandsOver w (batch_jobs w.state))
unfolding batch_asked
batch-over w =
    let v : TurnState State = at_board (batch_counted w.state.client.settings) w in
    let same : snapshot_of v.state ≡ snapshot_of w.state =
    ap (λ (checks : Checks). record (snapshot_of w.state) { check_fixes = all_fixes checks })
    (checks-counted (shows_diagnostics w.state.client.settings) (is_some (next_generation w.state.board)) w.state.board) in
    IfOk-weaker (all_asked (batch_kinds w.state) v) (HandsOver v (map (awaited_job v.state) (batch_kinds w.state))) _
    (asked-over (batch_kinds w.state) v)
    (λ u h. subst (λ (own : List OwnJob). HandsOver w own u) (awaited-same v.state w.state (batch_kinds w.state) same)
    (record { spawns = h.spawns; last_job = h.last_job }))

batch-cases : (b : Bool) (w : TurnState State) → IfOk (if b then batch_asked w else Ok w) (HandsOver w (batch_jobs_if b w.state))
batch-cases true w = batch-over w
batch-cases false w = hands-none w w refl refl

-- where one is due, by what was known
abbrev pub batch_due : Bool → FactsBefore → State → List OwnJob
batch_due came facts s = batch_jobs_if (is_batch_due facts.quiescent (is_quiescent s.files s.workspaces) facts.processed came) s

pub batch-done-over : (came : Bool) (facts : FactsBefore) (w : TurnState State) → IfOk (batch_done came facts w) (HandsOver w (batch_due came facts w.state))
unfolding batch_done
batch-done-over came facts w = batch-cases (is_batch_due facts.quiescent (is_quiescent w.state.files w.state.workspaces) facts.processed came) w

-- what is told of work beside the jobs, and what the client is asked, leaves the batch that is due
abbrev announced : State → Outgoing ReqHandler → Activities → State
announced s asked activities = record s { client = record s.client { asked = asked }; activities = activities }

lists-same : (generation : Option ℕ) (s : State) (asked : Outgoing ReqHandler) (activities : Activities)
    → lists_asked generation (announced s asked activities) ≡ lists_asked generation s
lists-same None s asked activities = refl
lists-same (Some generation) s asked activities = refl

kinds-same : (s : State) (asked : Outgoing ReqHandler) (activities : Activities) → batch_kinds (announced s asked activities) ≡ batch_kinds s
unfolding batch_kinds
kinds-same s asked activities =
    ap (λ (lists : List JobKind). (if shows_diagnostics s.client.settings then lists else [])
    ++ (if s.client.settings.capabilities.test_explorer then tests_asked (subscribed s.files) else []))
    (lists-same (next_generation s.board) s asked activities)

jobs-same : (b : Bool) (s : State) (asked : Outgoing ReqHandler) (activities : Activities)
    → batch_jobs_if b (announced s asked activities) ≡ batch_jobs_if b s
jobs-same false s asked activities = refl
jobs-same true s asked activities =
    let t : State = announced s asked activities in
    ap (map (awaited_job t)) (kinds-same s asked activities) ∙ awaited-same t s (batch_kinds s) refl

pub due-same : (came : Bool) (facts : FactsBefore) (w v : TurnState State) → Announces w v → batch_due came facts v.state ≡ batch_due came facts w.state
due-same came facts w v a =
    ap (batch_due came facts) a.state
    ∙ jobs-same (is_batch_due facts.quiescent (is_quiescent w.state.files w.state.workspaces) facts.processed came) w.state v.state.client.asked
    v.state.activities

-- and hands over nothing
pub announces-over : (w v : TurnState State) → Announces w v → HandsOver w [] v
announces-over w v a =
    hands-none w v
    (ap spawned a.says.tells.ordered ∙ spawned-append w.out.commands a.says.tells.commands
    ∙ ap (λ (js : List Job). spawned w.out.commands ++ js) a.says.tells.spawns_none ∙ append-nil _)
    (ap (λ (s : State). s.desk) a.state)

-- ---- work that is due

-- a fetch leaves all else
pub record FetchOver (may : Bool) (w v : TurnState State) : Type 0 where
  pub hands : HandsOver w (fetch_job w.state (fetch_to_start may w.state.workspaces.fetches)) v
  pub state : v.state ≡ with_desk v.state.desk (with_workspaces (with_fetches (start_fetch may) w.state.workspaces) w.state)

pub fetch-over : (may : Bool) (w : TurnState State) → IfOk (fetch_started may w) (FetchOver may w)
unfolding fetch_started fetch_handed_over
fetch-over may w = by_fetch (fetch_to_start may w.state.workspaces.fetches) refl
  where
    now : TurnState State
    now = at_workspaces (with_fetches (start_fetch may)) w

    by_fetch : (fetch : Option (List ℕ × FetchRequest)) → fetch_to_start may w.state.workspaces.fetches ≡ fetch
        → IfOk (fetch_handed_over fetch now) (FetchOver may w)
    by_fetch None is = record {
      hands = subst (λ (o : Option (List ℕ × FetchRequest)). HandsOver w (fetch_job w.state o) now) (sym is)
          (hands-none w now refl refl);
      state = refl;
    }
    by_fetch (Some fetch) is =
        IfOk-weaker (at_desk (handed_over (snapshot_of now.state) Worker (fetch_kind now.state.client.settings fetch.1)) now) _ (FetchOver may w)
        (one-over (fetch_kind now.state.client.settings fetch.1) now)
        (λ v (hands, state). record {
          hands = subst (λ (o : Option (List ℕ × FetchRequest)). HandsOver w (fetch_job w.state o) v) (sym is)
              (record { spawns = hands.spawns; last_job = hands.last_job });
          state = state;
        })

-- a run of build data too
record BuildOver (w v : TurnState State) : Type 0 where
  hands : HandsOver w (build_job w.state (build_due w.state.workspaces)) v
  state : v.state ≡ with_desk v.state.desk (with_workspaces (with_due_build w.state.workspaces) w.state)

build-over : (w : TurnState State) → IfOk (build_started w) (BuildOver w)
unfolding build_started build_handed_over
build-over w = by_build (build_due w.state.workspaces) refl
  where
    now : TurnState State
    now = at_workspaces with_due_build w

    by_build : (build : Option ℕ) → build_due w.state.workspaces ≡ build → IfOk (build_handed_over build now) (BuildOver w)
    by_build None is = record { hands = subst (λ (o : Option ℕ). HandsOver w (build_job w.state o) now) (sym is) (hands-none w now refl refl); state = refl }
    by_build (Some version) is =
        IfOk-weaker (at_desk (handed_over (snapshot_of now.state) Worker (FetchBuildData version)) now) _ (BuildOver w) (one-over (FetchBuildData version) now)
        (λ v (hands, state). record {
          hands = subst (λ (o : Option ℕ). HandsOver w (build_job w.state o) v) (sym is) (record { spawns = hands.spawns; last_job = hands.last_job });
          state = state;
        })

-- the load of a session that stands so, behind this run of build data
abbrev pub load_behind : Option ℕ → State → List OwnJob
load_behind build s = load_job (with_workspaces (with_due_load build s.workspaces) s) (load_due build s.workspaces)

load-over : (build : Option ℕ) (w : TurnState State) → IfOk (load_started build w) (HandsOver w (load_behind build w.state))
unfolding load_started load_handed_over
load-over build w = by_load (load_due build w.state.workspaces)
  where
    now : TurnState State
    now = at_workspaces (with_due_load build) w

    by_load : (load : Option MacroPaths) → IfOk (load_handed_over load now) (HandsOver w (load_job now.state load))
    by_load None = hands-none w now refl refl
    by_load (Some paths) =
        IfOk-weaker (at_desk (handed_over (snapshot_of now.state) Worker (load_kind now.state.client.settings paths)) now) _
        (HandsOver w (load_job now.state (Some paths)))
        (one-over (load_kind now.state.client.settings paths) now) (λ v (hands, state). record { spawns = hands.spawns; last_job = hands.last_job })

-- a run that starts is nothing to a load
load-job-same : (desk : Desk) (s : State) (build : Option ℕ) (load : Option MacroPaths)
    → load_job (let t : State = with_desk desk (with_workspaces (with_due_build s.workspaces) s) in with_workspaces (with_due_load build t.workspaces) t) load
    ≡ load_job (with_workspaces (with_due_load build s.workspaces) s) load
load-job-same desk s build None = refl
load-job-same desk s None (Some paths) = refl
load-job-same desk s (Some version) (Some paths) = refl

pub load-due-same : (build : Option ℕ) (workspaces : Workspaces) → load_due build (with_due_build workspaces) ≡ load_due build workspaces
load-due-same None workspaces = refl
load-due-same (Some version) workspaces = refl

load-same : (desk : Desk) (s : State) (build : Option ℕ) → load_behind build (with_desk desk (with_workspaces (with_due_build s.workspaces) s)) ≡ load_behind
    build s
load-same desk s build =
    load-job-same desk s build (load_due build (with_due_build s.workspaces))
    ∙ ap (load_job (with_workspaces (with_due_load build s.workspaces) s)) (load-due-same build s.workspaces)

pub runs-over : (w : TurnState State) → IfOk (runs_started w) (HandsOver w (run_jobs w.state))
unfolding runs_started
runs-over w =
    let build : Option ℕ = build_due w.state.workspaces in
    IfOk-and_then (build_started w) (load_started build) (BuildOver w) (HandsOver w (run_jobs w.state)) (build-over w)
    (λ v b. IfOk-weaker (load_started build v) (HandsOver v (load_behind build v.state)) _ (load-over build v)
    (λ u more. hands-on (spawned w.out.commands) w.state.desk.last_job (build_job w.state build) (load_behind build w.state) v u b.hands
    (subst (λ (own : List OwnJob). HandsOver v own u) (ap (load_behind build) b.state ∙ load-same v.state.desk w.state build) more)))

-- the work that is due is that of the workspaces, the files and the settings
build-job-same : (desk : Desk) (s : State) (build : Option ℕ) → build_job (with_desk desk s) build ≡ build_job s build
build-job-same desk s None = refl
build-job-same desk s (Some version) = refl

load-desk-same : (desk : Desk) (s : State) (build : Option ℕ) (load : Option MacroPaths)
    → load_job (with_workspaces (with_due_load build s.workspaces) (with_desk desk s)) load ≡ load_job (with_workspaces (with_due_load build s.workspaces) s)
    load
load-desk-same desk s build None = refl
load-desk-same desk s build (Some paths) = refl

pub run-jobs-same : (desk : Desk) (s : State) → run_jobs (with_desk desk s) ≡ run_jobs s
run-jobs-same desk s =
    let build : Option ℕ = build_due s.workspaces in
    ap (λ (own : List OwnJob). own ++ load_behind build (with_desk desk s)) (build-job-same desk s build)
    ∙ ap (λ (own : List OwnJob). build_job s build ++ own) (load-desk-same desk s build (load_due build s.workspaces))

-- ---- a turn, cut where its fetch starts

abbrev pub parts_from_fetch : Input → TurnState Turning → Result (TurnState Turning) Counter
parts_from_fetch Start w = and_then (fetch_part Start w) closing_part
parts_from_fetch (Next event) w =
    and_then (fetch_part (Next event) w) (λ w. and_then (build_part w) (λ w. and_then (prime_part w) (λ w. and_then (status_part w) closing_part)))

-- a part of a turn
abbrev TurnPart : Type 0
TurnPart = TurnState Turning → Result (TurnState Turning) Counter

two-split : (r : Result (TurnState Turning) Counter) (f k : TurnPart) → and_then r (λ a. and_then (f a) k) ≡ and_then (and_then r f) k
two-split (Ok a) f k = refl
two-split (Err counter) f k = refl

three-split : (r : Result (TurnState Turning) Counter) (f g k : TurnPart)
    → and_then r (λ a. and_then (f a) (λ b. and_then (g b) k)) ≡ and_then (and_then r (λ a. and_then (f a) g)) k
three-split (Ok a) f g k = two-split (f a) g k
three-split (Err counter) f g k = refl

four-split : (r : Result (TurnState Turning) Counter) (f g h k : TurnPart)
    → and_then r (λ a. and_then (f a) (λ b. and_then (g b) (λ c. and_then (h c) k))) ≡ and_then (and_then r (λ a. and_then (f a) (λ b. and_then (g b) h))) k
four-split (Ok a) f g h k = three-split (f a) g h k
four-split (Err counter) f g h k = refl

pub quiet-split : (meaning : Meaning) (event : Event) (w : TurnState Turning)
    → parts_before_fetch meaning (Next event) w
    ≡ and_then (parts_before_quiet meaning (Next event) w) (λ w. and_then (quiet_part (Next event) w) publish_part)
quiet-split meaning event w =
    three-split (event_part meaning event w) switch_part files_part (λ w. and_then (quiet_part (Next event) w) publish_part)

five-split : (r : Result (TurnState Turning) Counter) (f g h i k : TurnPart)
    → and_then r (λ a. and_then (f a) (λ b. and_then (g b) (λ c. and_then (h c) (λ d. and_then (i d) k))))
    ≡ and_then (and_then r (λ a. and_then (f a) (λ b. and_then (g b) (λ c. and_then (h c) i)))) k
five-split (Ok a) f g h i k = four-split (f a) g h i k
five-split (Err counter) f g h i k = refl

pub step-split : (meaning : Meaning) (input : Input) (s : State)
    → step meaning input (turn_start s) ≡ and_then (and_then (parts_before_fetch meaning input (turning (turn_start s))) (parts_from_fetch input)) turned
unfolding step
step-split meaning Start s =
    ap (λ r. and_then r turned) (three-split (status_part (turning (turn_start s))) register_part begin_part (parts_from_fetch Start))
step-split meaning (Next event) s =
    ap (λ r. and_then r turned) (five-split (event_part meaning event (turning (turn_start s))) switch_part files_part (quiet_part (Next event)) publish_part
    (parts_from_fetch (Next event)))

pub quiet-is : (meaning : Meaning) (input : Input) (s : State) (t : TurnState Turning) → parts_before_quiet meaning input (turning (turn_start s)) ≡ Ok t
    → before_quiet meaning input s ≡ t.state
quiet-is meaning input s t is = ap (λ r. (result_unwrap_or r (turning (turn_start s))).state) is

pub before-is : (meaning : Meaning) (input : Input) (s : State) (t : TurnState Turning) → parts_before_fetch meaning input (turning (turn_start s)) ≡ Ok t
    → before_fetch meaning input s ≡ t.state.state
before-is meaning input s t is = ap (λ r. (result_unwrap_or r (turning (turn_start s))).state.state) is

-- a session in which the fetch that is due has started
abbrev pub fetch_begun : Input → State → State
fetch_begun input s = with_workspaces (with_fetches (start_fetch (may_start input s.client.settings)) s.workspaces) s

-- the work that is due behind the fetch is due there
pub fetch_part-leaves : (input : Input) (t : TurnState Turning)
    → IfOk (fetch_part input t) (λ u. run_jobs u.state.state ≡ run_jobs (fetch_begun input t.state.state))
unfolding fetch_part
fetch_part-leaves input t =
    let may : Bool = may_start input t.state.state.client.settings in
    let w : TurnState State = record { state = t.state.state; out = t.out } in
    IfOk-within state_in with_state (fetch_started may) t (λ u. run_jobs u.state.state ≡ run_jobs (fetch_begun input t.state.state))
    (IfOk-weaker (fetch_started may w) (FetchOver may w) _ (fetch-over may w)
    (λ v f. ap run_jobs f.state ∙ run-jobs-same v.state.desk (fetch_begun input t.state.state)))
