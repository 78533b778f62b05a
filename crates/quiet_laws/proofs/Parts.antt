-- What each part of a turn behind its files leaves: all that a batch goes by, and these workspaces.
use Rattle.std.proofs.Common.{◌≡◌, ℕ, List, [], ◌∷◌, ◌++◌, Bool, true, false, refl, sym, ap, ◌∙◌, append-nil}
use Rattle.std.specs.Prelude.{◌==◌, Option, None, Some, Result, Ok, Err, IfOk, if◌then◌else◌}
use Rattle.std.specs.List.{filter_map}
use Rattle.std.proofs.lemmas.List.Elements.{filter_map-append}
use Rattle.docs_vfs.specs.Files.{path_at}
use Rattle.docs_vfs.specs.declared.file_kinds.FileId.{FileId}
use Rattle.method_table.specs.declared.class.PoolClass.{PoolClass}
use Rattle.method_table.specs.declared.class.PoolClass.TheVariants.{Latency, Worker}
use Rattle.ra_config.specs.Config.{ConfigData}
use Rattle.ra_config.specs.declared.capabilities.Capabilities.{Capabilities}
use Rattle.op_board.specs.Acts.{step as after_act}
use Rattle.op_board.specs.Acts.Act.{Counts, Takes}
use Rattle.op_board.specs.Board.{Board}
use Rattle.op_board.specs.Marked.{taken}
use Rattle.session_port.specs.declared.command.Command.TheVariants.{Revise, Timer as SetTimer}
use Rattle.session_port.specs.declared.fault.Counter.{Counter}
use Rattle.session_port.specs.declared.job.JobKind.{JobKind}
use Rattle.session_port.specs.declared.job.JobKind.TheVariants.{FetchBuildData}
use Rattle.session_port.specs.TurnState.{TurnState, and_then, lifted, ordered, written}
use Rattle.client.specs.Client.{Client}
use Rattle.client.specs.Steps.{asked_for, notification_of}
use Rattle.client.specs.declared.handler.ReqHandler.{ReqHandler}
use Rattle.client.specs.declared.handler.ReqHandler.TheVariants.{Ignore, OpenLogs}
use Rattle.notify.specs.declared.outgo.MessageKind.{MessageKind}
use Rattle.notify.specs.declared.outgo.Outgo.{Outgo}
use Rattle.notify.specs.declared.outgo.Outgo.TheVariants.{CodeLensRefresh, DiagnosticRefresh, InlayHintRefresh, RegisterSave, SemanticTokensRefresh}
use Rattle.notify.specs.declared.outgo.Outgo.TheVariants.{ShowMessage, ShowMessageRequest}
use Rattle.desk.specs.Desk.{Desk}
use Rattle.desk.specs.Steps.{handed_over, jobs_kept as kept_at_desk}
use Rattle.desk_laws.specs.Settled.{PassesOver}
use Rattle.desk_laws.proofs.Results.{IfOk-and_then, IfOk-if, IfOk-next, IfOk-weaker, IfOk-within}
use Rattle.status.specs.Same.{is_same_status}
use Rattle.status.specs.declared.status.Status.{Status}
use Rattle.workspaces.specs.Fetches.{fetch_to_start, fires, start_fetch, start_up}
use Rattle.workspaces.specs.Workspaces.{Workspaces}
use Rattle.workspaces.specs.declared.requests.FetchRequest.{FetchRequest}
use Rattle.session_model.specs.Building.{build_due, with_due_build}
use Rattle.session_model.specs.Diagnosing.{batch_counted, batch_kinds, counted, is_batch_due, publication, shows_diagnostics}
use Rattle.session_model.specs.Fetching.{with_fetches}
use Rattle.session_model.specs.Loading.{MacroPaths, load_due, load_kind, with_due_load}
use Rattle.session_model.specs.Machine.{all_asked, all_published, asked_if, at_board, at_client, at_desk, at_workspaces, batch_asked, batch_done, begun_fetches}
use Rattle.session_model.specs.Machine.{build_handed_over, build_started, came_or_went, client_in, client_refreshed, desk_in, desk_kept, fetch_handed_over}
use Rattle.session_model.specs.Machine.{fetch_started, files_published, load_handed_over, load_started, marked_published, published_at, quiet_done}
use Rattle.session_model.specs.Machine.{checks_done, refreshes_done, tellings_told}
use Rattle.activities.specs.declared.telling.Telling.{Telling}
use Rattle.session_laws.proofs.Announcing.{Announcing, checks-done-owe, told-owe}
use Rattle.session_model.specs.Machine.{revised, runs_started, saves_registered, status_changed, status_done, status_kept, status_told, text_shown, timer_set}
use Rattle.session_model.specs.Machine.{turn_closed, with_client, with_desk}
use Rattle.session_model.specs.State.{State, discovers, fetch_kind, snapshot_of, watched_names}
use Rattle.session_model.specs.Asking.{registers_saves}
use Rattle.session_model.specs.Status.{is_quiescent, opens_logs, shown_of, status_message, status_now, takes_status}
use Rattle.session_model.specs.declared.facts.FactsBefore.{FactsBefore}
use Rattle.session_model.specs.declared.input.Input.{Input}
use Rattle.session_laws.proofs.Passing.{Asks, Passes, asked-says, passes-none, passes-on, spawned-passes}
use Rattle.quiet_laws.specs.Heard.{timer_of}
use Rattle.quiet_laws.proofs.Bools.{if-same}

-- a part leaves these workspaces, and the files, the settings and what was cleared on the board as they were; nothing was ordered but jobs, log lines and
-- tasks that are put off
pub record Leaves (now : Workspaces) (w v : TurnState State) : Type 0 where
  pub files : v.state.files ≡ w.state.files
  pub settings : v.state.client.settings ≡ w.state.client.settings
  pub cleared : v.state.board.cleared ≡ w.state.board.cleared
  pub turns : v.state.desk.turns ≡ w.state.desk.turns
  pub workspaces : v.state.workspaces ≡ now
  pub out : Passes w.out v.out

pub leaves-on : (a b : Workspaces) (w v u : TurnState State) → Leaves a w v → Leaves b v u → Leaves b w u
leaves-on a b w v u x y = record {
  files = y.files ∙ x.files;
  settings = y.settings ∙ x.settings;
  cleared = y.cleared ∙ x.cleared;
  turns = y.turns ∙ x.turns;
  workspaces = y.workspaces;
  out = passes-on w.out v.out u.out x.out y.out;
}

-- all of them
abbrev pub LeavesAll : TurnState State → TurnState State → Type 0
LeavesAll w v = Leaves w.state.workspaces w v

all-on : (w v u : TurnState State) → LeavesAll w v → LeavesAll v u → LeavesAll w u
all-on w v u x y = record {
  files = y.files ∙ x.files;
  settings = y.settings ∙ x.settings;
  cleared = y.cleared ∙ x.cleared;
  turns = y.turns ∙ x.turns;
  workspaces = y.workspaces ∙ x.workspaces;
  out = passes-on w.out v.out u.out x.out y.out;
}

pub leaves-none : (w : TurnState State) → LeavesAll w w
leaves-none w = record { files = refl; settings = refl; cleared = refl; turns = refl; workspaces = refl; out = passes-none w.out }

then-leaves : (r : Result (TurnState State) Counter) (f : TurnState State → Result (TurnState State) Counter) (w : TurnState State) → IfOk r (LeavesAll w)
    → ((v : TurnState State) → IfOk (f v) (LeavesAll v)) → IfOk (and_then r f) (LeavesAll w)
then-leaves r f w first next =
    IfOk-and_then r f (LeavesAll w) (LeavesAll w) first (λ v x. IfOk-weaker (f v) (LeavesAll v) (LeavesAll w) (next v) (λ u y. all-on w v u x y))

-- ---- what is written and asked

pub notified-leaves : (message : Outgo) (w : TurnState State) → LeavesAll w (written (notification_of message) w)
unfolding written
notified-leaves message w = record { files = refl; settings = refl; cleared = refl; turns = refl; workspaces = refl; out = passes-none w.out }

pub asking-leaves : (message : Outgo) (handler : ReqHandler) (w : TurnState State) → IfOk (at_client (asked_for message handler) w) (LeavesAll w)
asking-leaves message handler w =
    let client : TurnState Client = record { state = w.state.client; out = w.out } in
    IfOk-within client_in with_client (asked_for message handler) w (LeavesAll w)
    (IfOk-weaker (asked_for message handler client) (Asks handler client) _ (asked-says message handler client)
    (λ v p. record {
      files = refl;
      settings = ap (λ (c : Client). c.settings) p.1;
      cleared = refl;
      turns = refl;
      workspaces = refl;
      out = p.0.passes;
    }))

-- and what is told of work beside the jobs
pub leaving : Announcing LeavesAll
leaving = record {
  on = all-on;
  says = λ w out s none. record { files = refl; settings = refl; cleared = refl; turns = refl; workspaces = refl; out = s.passes };
  asks = λ handler w out s none. record { files = refl; settings = refl; cleared = refl; turns = refl; workspaces = refl; out = s.passes };
  activities = λ w activities. record { files = refl; settings = refl; cleared = refl; turns = refl; workspaces = refl; out = passes-none w.out };
}

pub told-leave : (told : List Telling) (w : TurnState State) → IfOk (tellings_told told w) (LeavesAll w)
told-leave told w = told-owe LeavesAll leaving told w

pub asked_if-leaves : (wanted : Bool) (message : Outgo) (w : TurnState State) → IfOk (asked_if wanted message w) (LeavesAll w)
unfolding asked_if
asked_if-leaves true message w = asking-leaves message Ignore w
asked_if-leaves false message w = leaves-none w

-- ---- in a session that is quiescent

refreshed-leaves : (can : Capabilities) (w : TurnState State) → IfOk (client_refreshed can w) (LeavesAll w)
unfolding client_refreshed
refreshed-leaves can w =
    then-leaves (asked_if can.semantic_tokens_refresh SemanticTokensRefresh w) _ w (asked_if-leaves can.semantic_tokens_refresh SemanticTokensRefresh w)
    (λ v. then-leaves (asked_if can.code_lens_refresh CodeLensRefresh v) _ v (asked_if-leaves can.code_lens_refresh CodeLensRefresh v)
    (λ u. then-leaves (asked_if can.inlay_hints_refresh InlayHintRefresh u) _ u (asked_if-leaves can.inlay_hints_refresh InlayHintRefresh u)
    (asked_if-leaves can.diagnostics_refresh DiagnosticRefresh)))

refreshes-leave : (facts : FactsBefore) (w : TurnState State) → IfOk (refreshes_done facts w) (LeavesAll w)
unfolding refreshes_done
refreshes-leave facts w = IfOk-if _ _ (Ok w) (LeavesAll w) (refreshed-leaves w.state.client.settings.capabilities w) (leaves-none w)

-- a job is handed over
pub spawned-leaves : (class : PoolClass) (kind : JobKind) (w : TurnState State) → IfOk (at_desk (handed_over (snapshot_of w.state) class kind) w) (LeavesAll w)
unfolding ordered
spawned-leaves class kind w =
    let desk : TurnState Desk = record { state = w.state.desk; out = w.out } in
    IfOk-within desk_in with_desk (handed_over (snapshot_of w.state) class kind) w (LeavesAll w)
    (both-leave (handed_over (snapshot_of w.state) class kind desk) w (spawned-passes (snapshot_of w.state) class kind desk)
    (IfOk-next w.state.desk.last_job _ _ (λ (v : TurnState Desk). v.state.turns ≡ w.state.desk.turns) refl))
  where
    both-leave : (r : Result (TurnState Desk) Counter) (w : TurnState State) → IfOk r (λ v. Passes w.out v.out)
        → IfOk r (λ (v : TurnState Desk). v.state.turns ≡ w.state.desk.turns)
        → IfOk r (λ v. LeavesAll w (record { state = with_desk v.state w.state; out = v.out }))
    both-leave (Ok v) w passes turns = record { files = refl; settings = refl; cleared = refl; turns = turns; workspaces = refl; out = passes }
    both-leave (Err counter) w passes turns = tt

all-asked-leave : (kinds : List JobKind) (w : TurnState State) → IfOk (all_asked kinds w) (LeavesAll w)
unfolding all_asked
all-asked-leave [] w = leaves-none w
all-asked-leave (kind ∷ kinds) w =
    then-leaves (at_desk (handed_over (snapshot_of w.state) Latency kind) w) (all_asked kinds) w (spawned-leaves Latency kind w) (all-asked-leave kinds)

counted-cleared : (settings : ConfigData) (board : Board) → (batch_counted settings board).cleared ≡ board.cleared
counted-cleared settings board =
    if-same (λ (b : Board). b.cleared) (shows_diagnostics settings) (counted board) board
    (if-same (λ (b : Board). b.cleared) _ (after_act Counts board) board refl)

batch-asked-leaves : (w : TurnState State) → IfOk (batch_asked w) (LeavesAll w)
unfolding batch_asked
batch-asked-leaves w =
    let v : TurnState State = at_board (batch_counted w.state.client.settings) w in
    IfOk-weaker (all_asked (batch_kinds w.state) v) (LeavesAll v) (LeavesAll w) (all-asked-leave (batch_kinds w.state) v)
    (λ u y. all-on w v u (record {
      files = refl;
      settings = refl;
      cleared = counted-cleared w.state.client.settings w.state.board;
      turns = refl;
      workspaces = refl;
      out = passes-none w.out;
    }) y)

batch-done-leaves : (came : Bool) (facts : FactsBefore) (w : TurnState State) → IfOk (batch_done came facts w) (LeavesAll w)
unfolding batch_done
batch-done-leaves came facts w =
    IfOk-if (is_batch_due facts.quiescent (is_quiescent w.state.files w.state.workspaces) facts.processed came) (batch_asked w) (Ok w) (LeavesAll w)
    (batch-asked-leaves w) (leaves-none w)

pub quiet-leaves : (input : Input) (facts : FactsBefore) (w : TurnState State) → IfOk (quiet_done input facts w) (LeavesAll w)
unfolding quiet_done
quiet-leaves input facts w =
    let came : Bool = came_or_went input in
    then-leaves (checks_done facts w) (λ v. and_then (refreshes_done facts v) (batch_done came facts)) w (checks-done-owe LeavesAll leaving facts w)
    (λ v. then-leaves (refreshes_done facts v) (batch_done came facts) v (refreshes-leave facts v) (batch-done-leaves came facts))

-- ---- what is published

published-leaves : (path : Option (List ℕ)) (file : FileId) (w : TurnState State) → LeavesAll w (published_at path file w)
unfolding published_at
published-leaves None file w = leaves-none w
published-leaves (Some path) file w = notified-leaves (publication w.state.files w.state.board file path) w

all-published-leave : (files : List FileId) (w : TurnState State) → LeavesAll w (all_published files w)
all-published-leave [] w = leaves-none w
all-published-leave (file ∷ files) w =
    let v : TurnState State = published_at (path_at w.state.files.table file) file w in
    all-on w v _ (published-leaves (path_at w.state.files.table file) file w) (all-published-leave files v)

files-published-leave : (files : Option (List FileId)) (w : TurnState State) → LeavesAll w (files_published files w)
files-published-leave None w = leaves-none w
files-published-leave (Some files) w = all-published-leave files w

pub marked-leave : (w : TurnState State) → LeavesAll w (marked_published w)
unfolding marked_published
marked-leave w =
    let v : TurnState State = at_board (after_act Takes) w in
    all-on w v _ (record { files = refl; settings = refl; cleared = refl; turns = refl; workspaces = refl; out = passes-none w.out })
    (files-published-leave (taken w.state.board.marked) v)

-- ---- what starts

-- the workspaces come to this, and a job is handed over
one-starts : (step : Workspaces → Workspaces) (kind : JobKind) (w : TurnState State)
    → IfOk (at_desk (handed_over (snapshot_of (at_workspaces step w).state) Worker kind) (at_workspaces step w)) (Leaves (step w.state.workspaces) w)
one-starts step kind w =
    let v : TurnState State = at_workspaces step w in
    IfOk-weaker (at_desk (handed_over (snapshot_of v.state) Worker kind) v) (LeavesAll v) (Leaves (step w.state.workspaces) w) (spawned-leaves Worker kind v)
    (λ u y. record { files = y.files; settings = y.settings; cleared = y.cleared; turns = y.turns; workspaces = y.workspaces; out = y.out })

-- and none is
none-starts : (step : Workspaces → Workspaces) (w : TurnState State) → Leaves (step w.state.workspaces) w (at_workspaces step w)
none-starts step w = record { files = refl; settings = refl; cleared = refl; turns = refl; workspaces = refl; out = passes-none w.out }

fetch-handed : (may : Bool) (request : Option (List ℕ × FetchRequest)) (w : TurnState State)
    → IfOk (fetch_handed_over request (at_workspaces (with_fetches (start_fetch may)) w)) (Leaves (with_fetches (start_fetch may) w.state.workspaces) w)
unfolding fetch_handed_over
fetch-handed may None w = none-starts (with_fetches (start_fetch may)) w
fetch-handed may (Some request) w = one-starts (with_fetches (start_fetch may)) (fetch_kind w.state.client.settings request.1) w

pub fetch-leaves : (may : Bool) (w : TurnState State) → IfOk (fetch_started may w) (Leaves (with_fetches (start_fetch may) w.state.workspaces) w)
unfolding fetch_started
fetch-leaves may w = fetch-handed may (fetch_to_start may w.state.workspaces.fetches) w

build-handed : (version : Option ℕ) (w : TurnState State)
    → IfOk (build_handed_over version (at_workspaces with_due_build w)) (Leaves (with_due_build w.state.workspaces) w)
unfolding build_handed_over
build-handed None w = none-starts with_due_build w
build-handed (Some version) w = one-starts with_due_build (FetchBuildData version) w

load-handed : (build : Option ℕ) (paths : Option MacroPaths) (w : TurnState State)
    → IfOk (load_handed_over paths (at_workspaces (with_due_load build) w)) (Leaves (with_due_load build w.state.workspaces) w)
unfolding load_handed_over
load-handed build None w = none-starts (with_due_load build) w
load-handed build (Some paths) w = one-starts (with_due_load build) (load_kind w.state.client.settings paths) w

-- the workspaces, once the build data that is asked for has started, or else the load
abbrev pub runs_begun : Workspaces → Workspaces
runs_begun workspaces = with_due_load (build_due workspaces) (with_due_build workspaces)

pub runs-leave : (w : TurnState State) → IfOk (runs_started w) (Leaves (runs_begun w.state.workspaces) w)
unfolding runs_started build_started load_started
runs-leave w =
    let build : Option ℕ = build_due w.state.workspaces in
    IfOk-and_then (build_handed_over build (at_workspaces with_due_build w)) (load_started build) (Leaves (with_due_build w.state.workspaces) w)
    (Leaves (runs_begun w.state.workspaces) w)
    (build-handed build w)
    (λ v x. IfOk-weaker (load_started build v) (Leaves (with_due_load build v.state.workspaces) v) (Leaves (runs_begun w.state.workspaces) w)
    (load-handed build (load_due build v.state.workspaces) v)
    (λ u y. record {
      files = y.files ∙ x.files;
      settings = y.settings ∙ x.settings;
      cleared = y.cleared ∙ x.cleared;
      turns = y.turns ∙ x.turns;
      workspaces = y.workspaces ∙ ap (with_due_load build) x.workspaces;
      out = passes-on w.out v.out u.out x.out y.out;
    }))

pub begun-leaves : (w : TurnState State)
    → IfOk (begun_fetches w) (Leaves (with_fetches (start_up (discovers w.state.client.settings)) w.state.workspaces) w)
unfolding begun_fetches
begun-leaves w = none-starts (with_fetches (start_up (discovers w.state.client.settings))) w

-- ---- the status

shown-leaves : (button : Bool) (text : Option (List ℕ × MessageKind)) (w : TurnState State) → IfOk (text_shown button text w) (LeavesAll w)
unfolding text_shown
shown-leaves button None w = leaves-none w
shown-leaves true (Some text) w = asking-leaves (ShowMessageRequest text.0 text.1) OpenLogs w
shown-leaves false (Some text) w = notified-leaves (ShowMessage text.0 text.1) w

pub status-leaves : (w : TurnState State) → IfOk (status_done w) (LeavesAll w)
unfolding status_done status_kept status_changed status_told
status-leaves w =
    let status : Status = status_now w.state.client w.state.files w.state.workspaces w.state.activities.checks in
    then-leaves (status_changed status w) _ w
    (IfOk-if (is_same_status w.state.status status) (Ok w) (status_told status w) (LeavesAll w) (leaves-none w)
    (IfOk-if (takes_status w.state.client.settings) _ _ (LeavesAll w) (notified-leaves (status_message status) w)
    (shown-leaves (opens_logs w.state.client.settings w.state.workspaces) (shown_of status) w)))
    (λ v. record { files = refl; settings = refl; cleared = refl; turns = refl; workspaces = refl; out = passes-none v.out })

pub registers-leave : (w : TurnState State) → IfOk (saves_registered w) (LeavesAll w)
unfolding saves_registered
registers-leave w = asked_if-leaves (registers_saves w.state.client.settings) (RegisterSave (watched_names w.state.client.settings)) w

-- ---- the end of a turn

-- the timers that were ordered
abbrev pub timers_in : TurnState State → List ℕ
timers_in w = filter_map timer_of w.out.commands

pub passes-timers : PassesOver timer_of
passes-timers = record {
  jobs = λ job. refl;
  logs = λ code text. refl;
  defers = λ task. refl;
  sets = λ checks. refl;
  restarts = λ id scope. refl;
  cancels = λ id. refl;
  runs = λ include exclude. refl;
  stops = refl;
  discovers = λ arg. refl;
}

-- the timer that is ordered
abbrev pub timer_due : State → List ℕ
timer_due s = if fires s.desk.turns s.workspaces.fetches.waiting then s.desk.turns ∷ [] else []

-- a turn is closed
pub record Closes (w v : TurnState State) : Type 0 where
  pub files : v.state.files ≡ w.state.files
  pub settings : v.state.client.settings ≡ w.state.client.settings
  pub cleared : v.state.board.cleared ≡ w.state.board.cleared
  pub turns : v.state.desk.turns ≡ w.state.desk.turns
  pub workspaces : v.state.workspaces ≡ w.state.workspaces
  pub timers : timers_in v ≡ timers_in w ++ timer_due w.state

revised-timers : (b : Bool) (revision : ℕ) (w : TurnState State) → timers_in (if b then w else ordered (Revise revision) w) ≡ timers_in w
unfolding ordered
revised-timers true revision w = refl
revised-timers false revision w = filter_map-append timer_of w.out.commands _ ∙ append-nil _

revised-state : (b : Bool) (revision : ℕ) (w : TurnState State) → (if b then w else ordered (Revise revision) w).state ≡ w.state
unfolding ordered
revised-state true revision w = refl
revised-state false revision w = refl

timer-closes : (b : Bool) (ticket : ℕ) (v : TurnState State)
    → timers_in (if b then ordered (SetTimer ticket) v else v) ≡ timers_in v ++ (if b then ticket ∷ [] else [])
unfolding ordered
timer-closes true ticket v = filter_map-append timer_of v.out.commands _
timer-closes false ticket v = sym (append-nil _)

timer-state : (b : Bool) (ticket : ℕ) (v : TurnState State) → (if b then ordered (SetTimer ticket) v else v).state ≡ v.state
unfolding ordered
timer-state true ticket v = refl
timer-state false ticket v = refl

-- the jobs that were handed over are out
kept-closes : (facts : FactsBefore) (w : TurnState State) → IfOk (turn_closed facts w) (Closes w)
unfolding desk_kept kept_at_desk lifted revised timer_set
kept-closes facts w =
    let jobs : Desk = (kept_at_desk facts.ordered (record { state = w.state.desk; out = w.out })).state in
    let kept : TurnState State = record { state = with_desk jobs w.state; out = w.out } in
    let revision : ℕ = w.state.files.host.revision in
    let told : TurnState State = if revision == facts.revision then kept else ordered (Revise revision) kept in
    let same : told.state ≡ kept.state = revised-state (revision == facts.revision) revision kept in
    let last : (if fires told.state.desk.turns told.state.workspaces.fetches.waiting then ordered (SetTimer told.state.desk.turns) told else told).state
    ≡ kept.state = timer-state _ told.state.desk.turns told ∙ same in
    record {
      files = ap (λ (s : State). s.files) last;
      settings = ap (λ (s : State). s.client.settings) last;
      cleared = ap (λ (s : State). s.board.cleared) last;
      turns = ap (λ (s : State). s.desk.turns) last;
      workspaces = ap (λ (s : State). s.workspaces) last;
      timers = timer-closes _ told.state.desk.turns told
          ∙ (λ i. revised-timers (revision == facts.revision) revision kept i ++ timer_due (same i));
    }

pub closing-closes : (facts : FactsBefore) (w : TurnState State) → IfOk (turn_closed facts w) (Closes w)
closing-closes facts w = kept-closes facts w
