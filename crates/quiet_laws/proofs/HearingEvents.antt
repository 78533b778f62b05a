-- What an event does to what is heard, and, where nothing is in progress, to what a batch goes by.
use Rattle.std.proofs.Common.{◌≡◌, ◌∙◌, ap, ℕ, List, [], ◌∷◌, Bool, true, false, refl, sym, inl, subst}
use Rattle.std.specs.Prelude.{Option, None, Some, is_some, Result, Ok, IfOk}
use Rattle.std.specs.FinMap as map
use Rattle.docs_vfs.specs.FileUrls.{path_of}
use Rattle.lsp_frame.specs.declared.message.Request.{Request}
use Rattle.lsp_frame.specs.declared.message.Response.{Response}
use Rattle.lsp_frame.specs.declared.message.Message.{Message}
use Rattle.lsp_frame.specs.declared.message.Message.TheVariants.{Request as RequestMessage, Notification as NotificationMessage, Response as ResponseMessage}
use Rattle.method_table.specs.declared.class.PoolClass.TheVariants.{Worker}
use Rattle.op_board.specs.Acts.{step as after_act}
use Rattle.op_board.specs.Acts.Act.{ForgetsAll}
use Rattle.project_model.specs.declared.crates.CrateData.{CrateData}
use Rattle.session_port.specs.declared.command.DeferredTask.{DeferredTask}
use Rattle.session_port.specs.declared.command.DeferredTask.TheVariants.{CheckIfIndexed, CheckProcMacroSources}
use Rattle.session_port.specs.declared.command.LogCode.TheVariants.{BuildError, FetchError}
use Rattle.session_port.specs.declared.event.LoaderMsg.{LoaderMsg}
use Rattle.session_port.specs.declared.event.TaskMsg.{TaskMsg}
use Rattle.session_port.specs.declared.fault.Counter.{Counter}
use Rattle.session_port.specs.TurnState.{TurnState, and_then}
use Rattle.session_port.specs.Written.{Written}
use Rattle.client.specs.Client.{Client}
use Rattle.client.specs.Steps.{answered, folders_changed}
use Rattle.client.specs.declared.handler.ReqHandler.TheVariants.{Settings}
use Rattle.notify.specs.declared.notice.Notice.{Notice}
use Rattle.notify.specs.declared.notice.Notice.TheVariants as notices
use Rattle.notify.specs.declared.outgo.Outgo.TheVariants.{Configuration}
use Rattle.desk.specs.Desk.{Desk}
use Rattle.desk.specs.Meaning.{Meaning}
use Rattle.desk.specs.Steps.{cancelled, requested, result_taken as taken_at_desk}
use Rattle.desk.specs.WorkEnds.{BuildEnd, FetchEnd, LoadEnd, work_ended}
use Rattle.desk.specs.declared.state.ends.WorkEnd.{WorkEnd}
use Rattle.desk.specs.declared.state.ends.WorkEnd.TheVariants.{Fetched, Built, Checked, Loaded, Diagnosed, Tested}
use Rattle.desk_laws.proofs.Results.{IfOk-and_then, IfOk-weaker, IfOk-within}
use Rattle.desk_laws.proofs.Settling.{cancel-settles, message-settles, request-settles}
use Rattle.workspaces.specs.Loads.{loaded_crates}
use Rattle.workspaces.specs.Workspaces.{Workspaces}
use Rattle.session_files.specs.Steps.{crates_put, loaded}
use Rattle.session_files.specs.SessionFiles.{SessionFiles}
use Rattle.session_model.specs.Building.{build_kept, request_told}
use Rattle.session_model.specs.Checking.{check_kept, check_kind}
use Rattle.session_model.specs.Diagnosing.{lists_given, tests_told}
use Rattle.session_model.specs.Fetching.{fetch_kept, folders_told_if, settings_told}
use Rattle.session_model.specs.Hearing.{heard_of}
use Rattle.session_model.specs.Loading.{crates_loaded, load_kept}
use Rattle.session_model.specs.Machine.{all_resumed, answer_taken, at_board, at_client, at_desk, at_files, at_workspaces, batched, build_taken, client_in}
use Rattle.session_model.specs.Machine.{crates_arrived, end_taken, fetch_taken, files_processed, folders_taken, happened, load_taken}
use Rattle.session_model.specs.Machine.{checks_renewed_if, checks_restarted_if, crates_settled_if, files_changed, loader_brought, request_answered}
use Rattle.session_model.specs.Machine.{tellings_told, tests_announced, tests_run, work_followed}
use Rattle.session_model.specs.Restarting.{cancelled_under, has_other_checks, restart_checks}
use Rattle.session_model.specs.Testing.{run_asked_by}
use Rattle.session_port.specs.Jobs.{fitting_job}
use Rattle.activities.specs.Checks.{all_cancelled}
use Rattle.activities.specs.Scanning.{scans_told}
use Rattle.activities.specs.TestRun.{aborted}
use Rattle.activities.specs.Work.{job_told}
use Rattle.activities.specs.declared.telling.Telling.{Telling}
use Rattle.session_laws.proofs.Announcing.{renewed_if-owes, restarted_if-owes, tests-announced-owe, tests-run-owe}
use Rattle.session_model.specs.Machine.{loader_taken, macros_taken}
use Rattle.session_model.specs.Machine.{message_taken, news_taken, noticed, received, request_taken, resumed, told, with_client, work_taken}
use Rattle.session_model.specs.State.{State, goes_by_folders, scene_of, snapshot_of}
use Rattle.session_model.specs.Status.{build_fault, fetch_fault}
use Rattle.session_model.specs.Timing.{bring_files, renewed_if}
use Rattle.session_model.specs.declared.heard.Heard.{Heard}
use Rattle.session_model.specs.declared.heard.Heard.TheVariants.{Told, Malformed, Unhandled, Silent}
use Rattle.session_model.specs.declared.input.Event.{Event}
use Rattle.session_model.specs.declared.input.Event.TheVariants.{Lsp, Task, Vfs, Deferred, News, Timer}
use Rattle.session_model.specs.declared.input.Input.TheVariants.{Next}
use Rattle.session_laws.proofs.Passing.{Passes, answered-passes, folders-pass}
use Rattle.session_laws.proofs.Running.{loading, versions_of}
use Rattle.session_laws.proofs.Same.{none-some}
use Rattle.quiet_laws.specs.Heard.{progress_after, progress_after_messages, timer_left}
use Rattle.quiet_laws.proofs.Bools.{else-is, true-false}
use Rattle.quiet_laws.proofs.HearingFiles.{Hears, changed-happens, closed-happens, crates-hear, hears-happens, loader-hears, opened-happens, processed-happens}
use Rattle.quiet_laws.proofs.HearingSteps.{Goes, Happens, Takes, goes-board, goes-desk, goes-leaves, goes-logged, goes-logged_if, goes-none, goes-on}
use Rattle.quiet_laws.proofs.HearingSteps.{checks-run-go, goes-takes, goes-then-leaves, leave-goes}
use Rattle.quiet_laws.proofs.HearingSteps.{goes-work, happens-on, lists-cleared, news-goes, saved-goes, takes-ends, takes-goes, takes-on, then-goes, then-takes}
use Rattle.quiet_laws.proofs.HearingSteps.{watched-go}
use Rattle.quiet_laws.proofs.HearingWork.{Asks, MayWait, asks-same, build-ends, fetch-ends, fire-ticket, folders-ask, load-ends, renewed-asks, request-asks}
use Rattle.quiet_laws.proofs.HearingWork.{settings-ask, ticket}
use Rattle.quiet_laws.proofs.Parts.{LeavesAll, asking-leaves, leaving, notified-leaves, passes-timers, spawned-leaves, timers_in, told-leave}
use Rattle.quiet_laws.proofs.Resting.{HoldsNone, IsIdle}

-- ---- requests, answers and folders

answered-goes : (meaning : Meaning) (r : Request) (w : TurnState State) → IfOk (request_answered meaning r w) (Goes w)
answered-goes meaning r w =
    let desk : TurnState Desk = record { state = w.state.desk; out = w.out } in
    then-goes (at_desk (requested meaning (scene_of w.state) r) w) _ w
    (goes-desk (requested meaning (scene_of w.state) r) w
    (IfOk-weaker (requested meaning (scene_of w.state) r desk) _ (λ (v : TurnState Desk). (v.state.turns ≡ w.state.desk.turns) × Passes w.out v.out)
    (request-settles meaning (scene_of w.state) r desk) (λ v settled. (settled.turns, settled.others))))
    (λ v. goes-work v (request_told r w.state.desk v.state.workspaces) (request-asks v.state.desk.turns r w.state.desk v.state.workspaces))

pub request-goes : (meaning : Meaning) (r : Request) (w : TurnState State) → IfOk (request_taken meaning r w) (Goes w)
request-goes meaning r w =
    let run = run_asked_by r w.state.desk in
    then-goes (tests_run run w) (request_answered meaning r) w (leave-goes (tests_run run w) w (tests-run-owe LeavesAll leaving run w))
    (answered-goes meaning r)

goes-client : (w : TurnState State) (client : Client) (out : Written) → Passes w.out out → Goes w (record { state = with_client client w.state; out = out })
goes-client w client out passes = record {
  files = refl;
  cleared = refl;
  turns = refl;
  timers = passes _ passes-timers;
  work = asks-same w.state.desk.turns w.state.workspaces w.state.workspaces refl;
}

pub answer-goes : (r : Response) (w : TurnState State) → IfOk (answer_taken r w) (Goes w)
answer-goes r w =
    let client : TurnState Client = record { state = w.state.client; out = w.out } in
    then-goes (at_client (λ c. Ok (answered r c)) w) _ w
    (IfOk-within client_in with_client (λ c. Ok (answered r c)) w (Goes w)
    (goes-client w (answered r client).state (answered r client).out (answered-passes r client)))
    (λ v. let u : TurnState State = at_workspaces (settings_told w.state.client.settings v.state.client.settings) v in
    let other : Bool = has_other_checks w.state.client.settings v.state.client.settings in
    goes-then-leaves v u (checks_renewed_if other u)
    (goes-work v (settings_told w.state.client.settings v.state.client.settings v.state.workspaces)
    (settings-ask v.state.desk.turns w.state.client.settings v.state.client.settings v.state.workspaces))
    (renewed_if-owes LeavesAll leaving other u))

folders-go : (added removed : List (List ℕ)) (w : TurnState State) → IfOk (folders_taken added removed w) (Goes w)
folders-go added removed w =
    let client : TurnState Client = record { state = w.state.client; out = w.out } in
    then-goes (at_client (λ c. Ok (folders_changed added removed c)) w) _ w
    (IfOk-within client_in with_client (λ c. Ok (folders_changed added removed c)) w (Goes w)
    (goes-client w (folders_changed added removed client).state (folders_changed added removed client).out (folders-pass added removed client)))
    (λ v. goes-work v (folders_told_if (goes_by_folders w.state.client.settings) v.state.workspaces)
    (folders-ask v.state.desk.turns (goes_by_folders w.state.client.settings) v.state.workspaces))

-- ---- notifications

-- a notice that tells of a document
abbrev pub tells_document : Notice → Bool
tells_document (notices.DidOpen document) = true
tells_document (notices.DidChange change) = true
tells_document (notices.DidClose uri) = true
tells_document other = false

pub told-goes : (notice : Notice) → tells_document notice ≡ false → (w : TurnState State) → IfOk (told notice w) (Goes w)
unfolding told
told-goes (notices.CancelRequest id) none w =
    let desk : TurnState Desk = record { state = w.state.desk; out = w.out } in
    goes-desk (λ d. Ok (cancelled id d)) w ((cancel-settles id desk).turns, (cancel-settles id desk).others)
told-goes (notices.DidOpen document) none w = true-false none
told-goes (notices.DidChange change) none w = true-false none
told-goes (notices.DidClose uri) none w = true-false none
told-goes (notices.DidSave uri) none w = saved-goes (path_of uri) uri w
told-goes notices.DidChangeConfiguration none w =
    IfOk-weaker _ _ (Goes w) (asking-leaves Configuration Settings w) (goes-leaves w)
told-goes (notices.DidChangeWorkspaceFolders added removed) none w = folders-go added removed w
told-goes (notices.DidChangeWatchedFiles urls) none w =
    let v : TurnState State = files_changed map.empty urls w in
    let restarts : Bool = restart_checks w.state.client.settings urls in
    goes-then-leaves w v (checks_restarted_if restarts v) (watched-go map.empty urls w) (restarted_if-owes LeavesAll leaving restarts v)
told-goes (notices.CancelProgress token) none w =
    let told : List Telling = cancelled_under token w.state.activities.checks in leave-goes (tellings_told told w) w (told-leave told w)
told-goes notices.CancelFlycheck none w =
    let told : List Telling = all_cancelled w.state.activities.checks in leave-goes (tellings_told told w) w (told-leave told w)
told-goes notices.ClearFlycheck none w = goes-board w (after_act ForgetsAll w.state.board) refl
told-goes (notices.RunFlycheck uri) none w = checks-run-go uri w
told-goes notices.AbortRunTest none w =
    let told = aborted w.state.activities.tests in leave-goes (tests_announced told w) w (tests-announced-owe LeavesAll leaving told w)

goes-happens : (r : Result (TurnState State) Counter) (w : TurnState State) → IfOk r (Goes w) → IfOk r (Happens w)
goes-happens r w goes = IfOk-weaker r (Goes w) (Happens w) goes (λ v x. (takes-goes w v x).happens)

told-happens : (notice : Notice) (w : TurnState State) → IfOk (told notice w) (Happens w)
unfolding told
told-happens (notices.DidOpen document) w = opened-happens (path_of document.uri) document w
told-happens (notices.DidChange change) w = changed-happens (path_of change.uri) change w
told-happens (notices.DidClose uri) w = closed-happens (path_of uri) uri w
told-happens (notices.CancelRequest id) w = goes-happens (told (notices.CancelRequest id) w) w (told-goes (notices.CancelRequest id) refl w)
told-happens (notices.DidSave uri) w = goes-happens (told (notices.DidSave uri) w) w (told-goes (notices.DidSave uri) refl w)
told-happens notices.DidChangeConfiguration w = goes-happens (told notices.DidChangeConfiguration w) w (told-goes notices.DidChangeConfiguration refl w)
told-happens (notices.DidChangeWorkspaceFolders added removed) w =
    goes-happens (told (notices.DidChangeWorkspaceFolders added removed) w) w (told-goes (notices.DidChangeWorkspaceFolders added removed) refl w)
told-happens (notices.DidChangeWatchedFiles urls) w =
    goes-happens (told (notices.DidChangeWatchedFiles urls) w) w (told-goes (notices.DidChangeWatchedFiles urls) refl w)
told-happens (notices.CancelProgress token) w = goes-happens (told (notices.CancelProgress token) w) w (told-goes (notices.CancelProgress token) refl w)
told-happens notices.CancelFlycheck w = goes-happens (told notices.CancelFlycheck w) w (told-goes notices.CancelFlycheck refl w)
told-happens notices.ClearFlycheck w = goes-happens (told notices.ClearFlycheck w) w (told-goes notices.ClearFlycheck refl w)
told-happens (notices.RunFlycheck uri) w = goes-happens (told (notices.RunFlycheck uri) w) w (told-goes (notices.RunFlycheck uri) refl w)
told-happens notices.AbortRunTest w = goes-happens (told notices.AbortRunTest w) w (told-goes notices.AbortRunTest refl w)

noticed-happens : (heard : Heard) (method : List ℕ) (w : TurnState State) → IfOk (noticed heard method w) (Happens w)
unfolding noticed
noticed-happens (Told notice) method w = told-happens notice w
noticed-happens Malformed method w = (takes-goes w _ (goes-logged _ method w)).happens
noticed-happens Unhandled method w = (takes-goes w _ (goes-logged _ method w)).happens
noticed-happens Silent method w = (takes-goes w w (goes-none w)).happens

received-happens : (meaning : Meaning) (message : Message) (w : TurnState State) → IfOk (received meaning message w) (Happens w)
unfolding received
received-happens meaning (RequestMessage r) w = goes-happens (request_taken meaning r w) w (request-goes meaning r w)
received-happens meaning (NotificationMessage n) w = noticed-happens (heard_of n) n.method w
received-happens meaning (ResponseMessage r) w = goes-happens (answer_taken r w) w (answer-goes r w)

-- ---- results

fetch-takes : (found : FetchEnd) (w : TurnState State) → Takes w (fetch_taken found w)
unfolding fetch_taken
fetch-takes found w =
    let kept : TurnState State = at_workspaces (fetch_kept found) w in
    let v : TurnState State = at_board (after_act ForgetsAll) kept in
    takes-on w kept _ (takes-ends w (fetch_kept found w.state.workspaces) (fetch-ends found w.state.workspaces))
    (takes-goes kept _ (goes-on kept v _ (goes-board kept (after_act ForgetsAll w.state.board) refl)
    (goes-logged_if FetchError (fetch_fault v.state.client.settings v.state.workspaces) v)))

build-takes : (made : BuildEnd) (w : TurnState State) → Takes w (build_taken made w)
unfolding build_taken
build-takes made w =
    let v : TurnState State = at_workspaces (build_kept made) w in
    takes-on w v _ (takes-ends w (build_kept made w.state.workspaces) (build-ends made w.state.workspaces))
    (takes-goes v _ (goes-logged_if BuildError (build_fault v.state.workspaces) v))

-- crate data comes, and behind it the files are processed; none does where no load is in progress
load-cases : (crates : Option CrateData) (told : LoadEnd) (w : TurnState State) → (IsIdle w.state.workspaces → crates ≡ None)
    → IfOk (and_then (crates_arrived crates (at_workspaces (load_kept told) w)) (crates_settled_if (is_some crates))) (Takes w)
unfolding crates_arrived crates_settled_if
load-cases None told w none = takes-ends w (load_kept told w.state.workspaces) (load-ends told w.state.workspaces)
load-cases (Some crates) told w none =
    let v : TurnState State = at_workspaces (load_kept told) w in
    let ended : Happens w v = (takes-ends w (load_kept told w.state.workspaces) (load-ends told w.state.workspaces)).happens in
    IfOk-weaker _ (Happens w) (Takes w)
    (IfOk-and_then (at_files (crates_put v.state.sources.roots crates) v) (crates_settled_if true) (Hears v.state.files.progress_version v) (Happens w)
    (crates-hear v.state.sources.roots crates v)
    (λ u hears. IfOk-and_then (files_processed u) (checks_renewed_if true) (Happens w) (Happens w)
    (IfOk-weaker (files_processed u) (Happens u) (Happens w) (processed-happens u)
    (λ x happens. happens-on w v x ended (happens-on v u x (hears-happens v u hears) happens)))
    (λ x happens. IfOk-weaker (checks_renewed_if true x) (LeavesAll x) (Happens w) (renewed_if-owes LeavesAll leaving true x)
    (λ y leaves. happens-on w x y happens (takes-goes x y (goes-leaves x y leaves)).happens))))
    (λ x happens. record { happens = happens; calms = λ idle. none-some crates (sym (none idle)) })

load-takes : (told : LoadEnd) (w : TurnState State) → IfOk (load_taken told w) (Takes w)
unfolding load_taken macros_taken
load-takes told w = load-cases (crates_loaded told w.state.workspaces) told w
    (λ idle. else-is (loading w.state.workspaces) (loaded_crates told w.state.workspaces.loads) None idle.loads)

work-takes : (end : WorkEnd) (w : TurnState State) → IfOk (work_taken end w) (Takes w)
unfolding work_taken
work-takes (Fetched found) w = fetch-takes found w
work-takes (Built made) w = build-takes made w
work-takes (Checked roots) w = takes-goes w _ (goes-work w (check_kept roots w.state.workspaces)
    (record { timer = inl refl; last = refl; fetching = refl; building = refl; loads = refl; switch = refl; versions = refl }))
work-takes (Loaded told) w = load-takes told w
work-takes (Diagnosed generation pass lists) w =
    takes-goes w _ (goes-board w (lists_given generation pass lists w.state.board) (lists-cleared generation pass lists w.state.board))
work-takes (Tested files tests) w = takes-goes w _ (goes-leaves w _ (notified-leaves (tests_told w.state.files.table files tests) w))

end-takes : (end : Option WorkEnd) (w : TurnState State) → IfOk (end_taken end w) (Takes w)
unfolding end_taken
end-takes None w = takes-goes w w (goes-none w)
end-takes (Some end) w = work-takes end w

followed-takes : (end : Option WorkEnd) (told : List Telling) (w : TurnState State) → IfOk (work_followed end told w) (Takes w)
unfolding work_followed
followed-takes end told w =
    then-takes (end_taken end w) (tellings_told told) w (end-takes end w) (λ v. goes-takes (tellings_told told v) v (leave-goes (tellings_told told v) v (told-leave told v)))

message-takes : (meaning : Meaning) (message : TaskMsg) (w : TurnState State) → IfOk (message_taken meaning message w) (Takes w)
unfolding message_taken
message-takes meaning message w =
    let desk : TurnState Desk = record { state = w.state.desk; out = w.out } in
    let taken : Result (TurnState State) Counter = at_desk (taken_at_desk meaning (scene_of w.state) message) w in
    let told : List Telling = job_told message.body (fitting_job message w.state.desk.jobs) in
    then-takes taken (work_followed (work_ended message w.state.desk.jobs) told) w
    (goes-takes taken w (goes-desk (taken_at_desk meaning (scene_of w.state) message) w
    (IfOk-weaker (taken_at_desk meaning (scene_of w.state) message desk) _
    (λ (v : TurnState Desk). (v.state.turns ≡ w.state.desk.turns) × Passes w.out v.out)
    (message-settles meaning (scene_of w.state) message desk) (λ v settled. (settled.turns, settled.others)))))
    (followed-takes (work_ended message w.state.desk.jobs) told)

pub batch-takes : (meaning : Meaning) (batch : List TaskMsg) (w : TurnState State) → IfOk (batched meaning batch w) (Takes w)
batch-takes meaning [] w = takes-goes w w (goes-none w)
batch-takes meaning (m ∷ ms) w = then-takes (message_taken meaning m w) (batched meaning ms) w (message-takes meaning m w) (batch-takes meaning ms)

-- ---- checks that were put off

resumed-goes : (task : DeferredTask) (w : TurnState State) → IfOk (resumed task w) (Goes w)
unfolding resumed
resumed-goes (CheckIfIndexed path) w = goes-none w
resumed-goes (CheckProcMacroSources files) w = IfOk-weaker _ _ (Goes w) (spawned-leaves Worker (check_kind (snapshot_of w.state) files) w) (goes-leaves w)

pub all-resume : (tasks : List DeferredTask) (w : TurnState State) → IfOk (all_resumed tasks w) (Goes w)
all-resume [] w = goes-none w
all-resume (task ∷ tasks) w = then-goes (resumed task w) (all_resumed tasks) w (resumed-goes task w) (all-resume tasks)

-- ---- an event

-- by what is heard of it
pub record Happened (event : Event) (w v : TurnState State) : Type 0 where
  pub progress : v.state.files.progress_version ≡ progress_after (Next event) w.state.files.progress_version
  pub turns : v.state.desk.turns ≡ w.state.desk.turns
  pub timers : timers_in v ≡ timers_in w
  pub timer : MayWait w.state.desk.turns (timer_left (Next event) (ticket w.state.workspaces)) (ticket v.state.workspaces)
  pub versions : versions_of v.state.workspaces ≡ versions_of w.state.workspaces
  pub holds : HoldsNone w.state.workspaces → HoldsNone v.state.workspaces

brought-happens : (messages : List LoaderMsg) (w : TurnState State) → IfOk (loader_brought messages w) (Happened (Vfs messages) w)
brought-happens messages w =
    IfOk-and_then (at_files (loaded messages) w) _ (Hears (progress_after_messages messages w.state.files.progress_version) w) (Happened (Vfs messages) w)
    (loader-hears messages w)
    (λ v hears.
    let asks : Asks v.state.desk.turns v.state.workspaces (renewed_if (bring_files messages) v.state.desk.turns v.state.workspaces) =
    renewed-asks (bring_files messages) v.state.desk.turns v.state.workspaces in
    let here : Asks w.state.desk.turns w.state.workspaces (renewed_if (bring_files messages) v.state.desk.turns v.state.workspaces) =
    subst (λ n. Asks n w.state.workspaces (renewed_if (bring_files messages) v.state.desk.turns v.state.workspaces)) hears.turns
    (subst (λ (ws : Workspaces). Asks v.state.desk.turns ws (renewed_if (bring_files messages) v.state.desk.turns v.state.workspaces)) hears.workspaces asks) in
    let goes = (takes-goes w (record w { state = record w.state { workspaces = renewed_if (bring_files messages) v.state.desk.turns v.state.workspaces } })
    (goes-work w (renewed_if (bring_files messages) v.state.desk.turns v.state.workspaces) here)).happens in
    record {
      progress = hears.progress;
      turns = hears.turns;
      timers = hears.timers;
      timer = here.timer;
      versions = here.versions;
      holds = goes.holds;
    })

-- and what leaves all behind it
happened-leaves : (event : Event) (w v u : TurnState State) → Happened event w v → LeavesAll v u → Happened event w u
happened-leaves event w v u h leaves = record {
  progress = ap (λ (f : SessionFiles). f.progress_version) leaves.files ∙ h.progress;
  turns = leaves.turns ∙ h.turns;
  timers = leaves.out _ passes-timers ∙ h.timers;
  timer = subst (λ (ws : Workspaces). MayWait w.state.desk.turns (timer_left (Next event) (ticket w.state.workspaces)) (ticket ws)) (sym leaves.workspaces) h.timer;
  versions = ap versions_of leaves.workspaces ∙ h.versions;
  holds = λ holds. subst HoldsNone (sym leaves.workspaces) (h.holds holds);
}

loader-happens : (messages : List LoaderMsg) (w : TurnState State) → IfOk (loader_taken messages w) (Happened (Vfs messages) w)
loader-happens messages w =
    let told : List Telling = scans_told w.state.client.settings.root_path messages in
    IfOk-and_then (loader_brought messages w) (tellings_told told) (Happened (Vfs messages) w) (Happened (Vfs messages) w) (brought-happens messages w)
    (λ v h. IfOk-weaker (tellings_told told v) (LeavesAll v) (Happened (Vfs messages) w) (told-leave told v) (λ u leaves. happened-leaves (Vfs messages) w v u h leaves))

pub happened-is : (meaning : Meaning) (event : Event) (w : TurnState State) → IfOk (happened meaning event w) (Happened event w)
unfolding happened
happened-is meaning (Lsp message) w = IfOk-weaker (received meaning message w) (Happens w) (Happened (Lsp message) w) (received-happens meaning message w)
    (λ v h. record { progress = h.progress; turns = h.turns; timers = h.timers; timer = h.timer; versions = h.versions; holds = h.holds })
happened-is meaning (Task batch) w = IfOk-weaker (batched meaning batch w) (Takes w) (Happened (Task batch) w) (batch-takes meaning batch w)
    (λ v x. let h = x.happens in
    record { progress = h.progress; turns = h.turns; timers = h.timers; timer = h.timer; versions = h.versions; holds = h.holds })
happened-is meaning (Vfs messages) w = loader-happens messages w
happened-is meaning (Deferred tasks) w = IfOk-weaker (all_resumed tasks w) (Goes w) (Happened (Deferred tasks) w) (all-resume tasks w)
    (λ v x. let h = (takes-goes w v x).happens in
    record { progress = h.progress; turns = h.turns; timers = h.timers; timer = h.timer; versions = h.versions; holds = h.holds })
happened-is meaning (News news) w = IfOk-weaker (news_taken news w) (Goes w) (Happened (News news) w) (news-goes news w)
    (λ v x. let h = (takes-goes w v x).happens in
    record { progress = h.progress; turns = h.turns; timers = h.timers; timer = h.timer; versions = h.versions; holds = h.holds })
happened-is meaning (Timer number) w = record {
  progress = refl;
  turns = refl;
  timers = refl;
  timer = inl (fire-ticket number w.state.workspaces);
  versions = refl;
  holds = λ holds. holds;
}
