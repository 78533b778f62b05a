-- One walk through all that the machine does in a turn, for any relation between what was before a step and what is behind it.
use Rattle.std.proofs.Common.{◌≡◌, ℕ, List, [], ◌∷◌, Bool, true, false, refl, ap, ◌∙◌}
use Rattle.std.specs.Prelude.{◌==◌, Option, None, Some, is_some, Result, Ok, Err, IfOk}
use Rattle.activities.specs.Checks.{all_cancelled}
use Rattle.activities.specs.Scanning.{scans_told}
use Rattle.activities.specs.TestRun.{aborted}
use Rattle.activities.specs.Work.{job_told}
use Rattle.activities.specs.declared.telling.Telling.{Telling}
use Rattle.std.specs.FinMap as map
use Rattle.docs_vfs.specs.FileUrls.{path_of}
use Rattle.docs_vfs.specs.declared.file_url.UrlFault.{UrlFault}
use Rattle.lsp_frame.specs.declared.message.Request.{Request}
use Rattle.lsp_frame.specs.declared.message.Response.{Response}
use Rattle.lsp_frame.specs.declared.message.Message.TheVariants.{Request as RequestMessage, Notification as NotificationMessage, Response as ResponseMessage}
use Rattle.method_table.specs.declared.class.PoolClass.{PoolClass}
use Rattle.method_table.specs.declared.class.PoolClass.TheVariants.{Latency, Worker}
use Rattle.op_board.specs.Acts.{step as after_act}
use Rattle.op_board.specs.Acts.Act.{ForgetsAll}
use Rattle.project_model.specs.declared.crates.CrateData.{CrateData}
use Rattle.session_port.specs.declared.command.Command.TheVariants.{Revise, Timer as SetTimer}
use Rattle.session_port.specs.declared.command.DeferredTask.{DeferredTask}
use Rattle.session_port.specs.declared.command.DeferredTask.TheVariants.{CheckIfIndexed, CheckProcMacroSources}
use Rattle.session_port.specs.declared.command.LogCode.TheVariants.{BuildError, FetchError}
use Rattle.session_port.specs.declared.event.LoaderMsg.{LoaderMsg}
use Rattle.session_port.specs.declared.event.TaskMsg.{TaskMsg}
use Rattle.session_port.specs.declared.fault.Counter.{Counter}
use Rattle.session_port.specs.declared.job.JobKind.{JobKind}
use Rattle.session_port.specs.declared.job.JobKind.TheVariants.{FetchBuildData}
use Rattle.session_port.specs.TurnState.{TurnState, and_then, ordered}
use Rattle.session_port.specs.Written.{Written}
use Rattle.client.specs.Client.{Client}
use Rattle.client.specs.Folds.{follows}
use Rattle.client.specs.Steps.{answered, folders_changed}
use Rattle.client.specs.declared.handler.ReqHandler.TheVariants.{Settings}
use Rattle.notify.specs.declared.notice.DidChange.{DidChange}
use Rattle.notify.specs.declared.notice.DidOpen.{DidOpen}
use Rattle.notify.specs.declared.notice.Notice.{Notice}
use Rattle.notify.specs.declared.notice.Notice.TheVariants as notices
use Rattle.notify.specs.declared.outgo.Outgo.TheVariants.{Configuration}
use Rattle.desk.specs.Desk.{Desk}
use Rattle.desk.specs.WorkEnds.{BuildEnd, FetchEnd, LoadEnd, work_ended}
use Rattle.desk.specs.declared.state.ends.WorkEnd.{WorkEnd}
use Rattle.desk.specs.declared.state.ends.WorkEnd.TheVariants.{Fetched, Built, Checked, Loaded, Diagnosed, Tested}
use Rattle.desk.specs.Meaning.{Meaning}
use Rattle.desk.specs.Steps.{cancelled, counted as counted_at_desk, handed_over, jobs_kept as kept_at_desk, requested, result_taken as taken_at_desk}
use Rattle.desk_laws.proofs.Results.{IfOk-and_then, IfOk-if, IfOk-weaker, IfOk-within}
use Rattle.session_files.specs.Folds.{after_closing, changed_files}
use Rattle.session_files.specs.SessionFiles.{SessionFiles}
use Rattle.session_files.proofs.SoundLemmas.{closing_keeps}
use Rattle.session_files.specs.Steps.{close_noted, closed_document, crates_put, loaded, processed}
use Rattle.workspaces.specs.Fetches.{fetch_to_start, fire, fires, start_fetch, start_up}
use Rattle.workspaces.specs.Workspaces.{Workspaces}
use Rattle.workspaces.specs.declared.follows.Follows.{Follows}
use Rattle.workspaces.specs.declared.requests.FetchRequest.{FetchRequest}
use Rattle.session_model.specs.Building.{build_due, build_kept, request_told, with_due_build}
use Rattle.session_model.specs.Checking.{check_kept, check_kind}
use Rattle.session_model.specs.Crates.{builds_crates, crate_data}
use Rattle.session_model.specs.Diagnosing.{batch_counted, batch_kinds, is_batch_due, lists_cleared, lists_given, tests_told}
use Rattle.session_model.specs.Fetching.{fetch_kept, folders_told_if, settings_told, with_fetches}
use Rattle.session_model.specs.Hearing.{heard_of, told_by}
use Rattle.session_model.specs.Loading.{MacroPaths, crates_loaded, load_due, load_kept, load_kind, with_due_load}
use Rattle.session_model.specs.Machine.{all_resumed, answer_taken, request_taken, at_client, at_desk, at_files, at_workspaces, batched, begun_fetches}
use Rattle.session_model.specs.Machine.{checks_done, checks_renewed_if, checks_restarted_if, crates_settled_if, loader_brought, request_answered}
use Rattle.session_model.specs.Machine.{files_changed, tellings_told, tests_run, work_followed}
use Rattle.session_model.specs.Restarting.{cancelled_under, has_other_checks, restart_checks}
use Rattle.session_model.specs.Testing.{run_asked_by}
use Rattle.session_port.specs.Jobs.{fitting_job}
use Rattle.session_model.specs.Machine.{loader_taken, build_handed_over, build_started, build_taken, document_changed_at, client_in, turn_closed}
use Rattle.session_model.specs.Machine.{all_asked, at_board, batch_asked, batch_done, came_or_went, document_closed_at}
use Rattle.session_model.specs.Machine.{quiet_done, refreshes_done}
use Rattle.session_model.specs.Machine.{turn_counted, crates_arrived, crates_built, desk_in, end_taken, work_taken, facts_before, fetch_handed_over}
use Rattle.session_model.specs.Machine.{fetch_started}
use Rattle.session_model.specs.Machine.{fetch_taken, files_done, files_followed, files_in, files_processed, folders_taken, switch_followed}
use Rattle.session_model.specs.Machine.{happened, desk_kept, load_handed_over, load_started, load_taken, macros_taken, noticed, document_opened_at, received}
use Rattle.session_model.specs.Machine.{resumed}
use Rattle.session_model.specs.Machine.{revised, runs_started, saves_registered, step, switch_done, message_taken, event_taken, timer_set, told, with_client}
use Rattle.session_model.specs.Machine.{with_desk, with_files, with_workspaces}
use Rattle.session_model.specs.Run.{turn_start}
use Rattle.session_model.specs.State.{State, columns_in, discovers, excludes_in, fetch_kind, goes_by_folders, scene_of, snapshot_of}
use Rattle.session_model.specs.Status.{build_fault, fetch_fault, is_quiescent}
use Rattle.session_model.specs.Timing.{bring_files, renewed_if}
use Rattle.session_model.specs.declared.facts.FactsBefore.{FactsBefore}
use Rattle.session_model.specs.declared.heard.Heard.{Heard}
use Rattle.session_model.specs.declared.heard.Heard.TheVariants.{Told, Malformed, Unhandled, Silent}
use Rattle.session_model.specs.declared.input.Event.{Event}
use Rattle.session_model.specs.declared.input.Event.TheVariants.{Lsp, Task, Vfs, Deferred, News, Timer}
use Rattle.session_model.specs.declared.input.Input.{Input}
use Rattle.session_model.specs.declared.input.Input.TheVariants.{Next}
use Rattle.session_laws.specs.Entering.{tells_folders, tells_settings}
use Rattle.session_laws.proofs.Passing.{Passes, Stays, answered-passes, cancelled-passes, changed-passes, close-noted-passes, counted-passes, crates-pass}
use Rattle.session_laws.proofs.Passing.{folders-pass, spawned-passes, kept-passes, loaded-passes, message-passes, opened-passes, passes-none, passes-on}
use Rattle.session_laws.proofs.Passing.{processed-passes, requested-passes}
use Rattle.session_laws.proofs.Running.{versions_of, begin-runs, fire-runs, folders-runs, renewed-runs, request-runs, settings-runs}
use Rattle.session_laws.proofs.Saying.{behind-owes, checks-done-owe, checks-run-owe, renewed_if-owes, restarted_if-owes, tests-announced-owe}
use Rattle.session_laws.proofs.Saying.{tests-run-owe, told-owe}
use Rattle.session_laws.proofs.Saying.{MayRenew, MayReread, Saying, asked_if-owes, asking-owes, files-followed-owe, logged-owes, logged_if-owes, none-owes}
use Rattle.session_laws.proofs.Saying.{marked-owe, news-owe, notified-owes, owes-if, owes-then, refreshes-owe, saved-owes, status-owes, switch-followed-owes}
use Rattle.session_laws.proofs.Saying.{watched-owe}
use Rattle.session_laws.proofs.Telling.{after-parents, answered-does, folders-do}
use Rattle.session_laws.proofs.Turns.{Begins, Closes, Keeps, Parts, turn-ends}
use Rattle.session_laws.proofs.WorkEnds.{build-leaves, fetch-leaves, load-leaves}

-- what each step of the machine owes to a relation of what was before it and what is behind it, but for what an event tells, a switch
-- and the revision that is told
pub record Owed (R : TurnState State → TurnState State → Type 0) : Type 0 where
  pub saying : Saying R
  -- a timer is ordered
  pub times : (ticket : ℕ) (w : TurnState State) → R w (ordered (SetTimer ticket) w)
  -- the desk and the workspaces become others
  pub desk : (w : TurnState State) (desk : Desk) (out : Written) → Passes w.out out → R w (record { state = with_desk desk w.state; out = out })
  pub workspaces : (w : TurnState State) (workspaces : Workspaces) → versions_of workspaces ≡ versions_of w.state.workspaces
      → R w (record w { state = with_workspaces workspaces w.state })
  -- documents, and what a loader brings, leave the world
  pub files : (w : TurnState State) (files : SessionFiles) (out : Written) → files.host ≡ w.state.files.host → Passes w.out out
      → R w (record { state = with_files files w.state; out = out })
  -- files enter it, and what follows from them is done
  pub processes : (w : TurnState State) → IfOk (files_processed w) (R w)
  -- crate data enters it, with the roots that are present
  pub crates : (crates : CrateData) (w : TurnState State) → IfOk (at_files (crates_put w.state.sources.roots crates) w) (R w)

-- ---- relations of what is ordered

-- nothing was ordered but jobs, log lines and tasks that are put off, and the workspaces have their versions
pub record Passed (w v : TurnState State) : Type 0 where
  pub out : Passes w.out v.out
  pub versions : versions_of v.state.workspaces ≡ versions_of w.state.workspaces

passed-on : (w v u : TurnState State) → Passed w v → Passed v u → Passed w u
passed-on w v u p q = record { out = passes-on w.out v.out u.out p.out q.out; versions = q.versions ∙ p.versions }

-- a relation of these alone
by-passing : (R : TurnState State → TurnState State → Type 0) → ((w v u : TurnState State) → R w v → R v u → R w u) → ((w v : TurnState State) → Passed w v → R w v)
    → Saying R
by-passing R on keeps = record {
  on = on;
  says = λ w out s. keeps w _ (record { out = s.passes; versions = refl });
  asks = λ handler w out s. keeps w _ (record { out = s.passes; versions = refl });
  runs = λ w workspaces same. keeps w _ (record { out = passes-none w.out; versions = same.versions });
  status = λ w status. keeps w _ (record { out = passes-none w.out; versions = refl });
  board = λ w board. keeps w _ (record { out = passes-none w.out; versions = refl });
  activities = λ w activities. keeps w _ (record { out = passes-none w.out; versions = refl });
}

-- a step of the files, which enters the world
enters-passed : (work : TurnState SessionFiles → Result (TurnState SessionFiles) Counter) (w : TurnState State)
    → IfOk (work (record { state = w.state.files; out = w.out })) (λ v. Passes w.out v.out) → IfOk (at_files work w) (Passed w)
enters-passed work w passes =
    IfOk-within files_in with_files work w (Passed w) (IfOk-weaker _ (λ v. Passes w.out v.out) _ passes (λ v p. record { out = p; versions = refl }))

processed-passed : (w : TurnState State) → IfOk (files_processed w) (Passed w)
unfolding files_processed
processed-passed w =
    IfOk-and_then (at_files (processed w.state.sources.roots) w) (λ v. Ok (files_followed (changed_files w.state.files) v)) (Passed w) (Passed w)
    (enters-passed (processed w.state.sources.roots) w (processed-passes w.state.sources.roots (record { state = w.state.files; out = w.out })))
    (λ v p. passed-on w v _ p (files-followed-owe Passed (by-passing Passed passed-on (λ w v p. p))
    (λ w client sources. record { out = passes-none w.out; versions = refl }) (changed_files w.state.files) v))

crates-passed : (crates : CrateData) (w : TurnState State) → IfOk (at_files (crates_put w.state.sources.roots crates) w) (Passed w)
crates-passed crates w = enters-passed (crates_put w.state.sources.roots crates) w
    (crates-pass w.state.sources.roots crates (record { state = w.state.files; out = w.out }))

pub owed-by : (R : TurnState State → TurnState State → Type 0) → ((w v u : TurnState State) → R w v → R v u → R w u)
    → ((w v : TurnState State) → Passed w v → R w v)
    → ((ticket : ℕ) (w : TurnState State) → R w (ordered (SetTimer ticket) w)) → Owed R
owed-by R on keeps times = record {
  saying = by-passing R on keeps;
  times = times;
  desk = λ w desk out passes. keeps w _ (record { out = passes; versions = refl });
  workspaces = λ w workspaces same. keeps w _ (record { out = passes-none w.out; versions = same });
  files = λ w files out same passes. keeps w _ (record { out = passes; versions = refl });
  processes = λ w. IfOk-weaker (files_processed w) (Passed w) (R w) (processed-passed w) (keeps w);
  crates = λ crates w. IfOk-weaker _ (Passed w) (R w) (crates-passed crates w) (keeps w);
}

-- ---- events and turns

-- a notice has files read anew
abbrev pub rereads : Notice → Bool
rereads (notices.DidClose uri) = true
rereads (notices.DidChangeWatchedFiles urls) = true
rereads other = false

-- an event is a notification
abbrev pub notifies : Event → Bool
notifies (Lsp (NotificationMessage n)) = true
notifies other = false

-- the client's settings may become others, but for their parents
abbrev pub MayTell : (TurnState State → TurnState State → Type 0) → Type 0
MayTell R = (w : TurnState State) (client : Client) (out : Written)
    → client.settings.settings.parents ≡ w.state.client.settings.settings.parents → Passes w.out out
    → R w (record { state = with_client client w.state; out = out })

module _ (R : TurnState State → TurnState State → Type 0) (owed : Owed R) where
  none : (w : TurnState State) → R w w
  none w = none-owes R owed.saying w

  -- one step and then another
  two-owe : (r : Result (TurnState State) Counter) (f : TurnState State → Result (TurnState State) Counter) (w : TurnState State) → IfOk r (R w)
      → ((v : TurnState State) → IfOk (f v) (R v)) → IfOk (and_then r f) (R w)
  two-owe r f w first next = owes-then R owed.saying r f w first next

  pub desk-owes : (work : TurnState Desk → Result (TurnState Desk) Counter) (w : TurnState State)
      → IfOk (work (record { state = w.state.desk; out = w.out })) (λ v. Passes w.out v.out) → IfOk (at_desk work w) (R w)
  desk-owes work w passes = IfOk-within desk_in with_desk work w (R w) (IfOk-weaker _ (λ v. Passes w.out v.out) _ passes (λ v p. owed.desk w v.state v.out p))

  files-owe : (work : TurnState SessionFiles → Result (TurnState SessionFiles) Counter) (w : TurnState State)
      → (let files : TurnState SessionFiles = record { state = w.state.files; out = w.out } in IfOk (work files) (Stays files)) → IfOk (at_files work w) (R w)
  files-owe work w stays =
      let files : TurnState SessionFiles = record { state = w.state.files; out = w.out } in
      IfOk-within files_in with_files work w (R w) (IfOk-weaker (work files) (Stays files) _ stays (λ v p. owed.files w v.state v.out p.1 p.0))

  spawned-owes : (class : PoolClass) (kind : JobKind) (w : TurnState State) → IfOk (at_desk (handed_over (snapshot_of w.state) class kind) w) (R w)
  spawned-owes class kind w = desk-owes _ w (spawned-passes (snapshot_of w.state) class kind (record { state = w.state.desk; out = w.out }))

  settled_if-owes : (b : Bool) (w : TurnState State) → IfOk (crates_settled_if b w) (R w)
  unfolding crates_settled_if
  settled_if-owes true w = two-owe (files_processed w) (checks_renewed_if true) w (owed.processes w) (renewed_if-owes R owed.saying true)
  settled_if-owes false w = none w

  -- ---- notifications

  opened-owes : (o : Result (List ℕ) UrlFault) (document : DidOpen) (w : TurnState State) → IfOk (document_opened_at o document w) (R w)
  unfolding document_opened_at
  opened-owes (Err fault) document w = logged-owes R owed.saying _ document.uri w
  opened-owes (Ok path) document w =
      files-owe _ w (opened-passes (excludes_in w.state.client.settings) path document.version document.text (record { state = w.state.files; out = w.out }))

  changed-owes : (o : Result (List ℕ) UrlFault) (change : DidChange) (w : TurnState State) → IfOk (document_changed_at o change w) (R w)
  unfolding document_changed_at
  changed-owes (Err fault) change w = logged-owes R owed.saying _ change.uri w
  changed-owes (Ok path) change w =
      files-owe _ w (changed-passes (columns_in w.state.client.settings) path change.version change.changes (record { state = w.state.files; out = w.out }))

  closed-at-owes : MayReread R → (o : Result (List ℕ) UrlFault) (uri : List ℕ) (w : TurnState State) → IfOk (document_closed_at o uri w) (R w)
  unfolding document_closed_at closed_document ordered
  closed-at-owes may (Err fault) uri w = logged-owes R owed.saying _ uri w
  closed-at-owes may (Ok path) uri w =
      let cleared : TurnState State = at_board (lists_cleared (map.get w.state.files.ids path)) w in
      let noted : Written = (close_noted path (record { state = w.state.files; out = w.out })).out in
      let v : TurnState State = record { state = with_files (after_closing path w.state.files) cleared.state; out = noted } in
      IfOk-within files_in with_files (λ f. Ok (closed_document path f)) cleared (R w)
      (owed.saying.on w cleared _ (owed.saying.board w (lists_cleared (map.get w.state.files.ids path) w.state.board))
      (owed.saying.on cleared v _ (owed.files cleared (after_closing path w.state.files) noted (closing_keeps path w.state.files).host
      (close-noted-passes path (record { state = w.state.files; out = w.out }))) (may path v)))

  folders-owe : MayTell R → (added removed : List (List ℕ)) (w : TurnState State) → IfOk (folders_taken added removed w) (R w)
  folders-owe tells added removed w =
      let client : TurnState Client = record { state = w.state.client; out = w.out } in
      two-owe (at_client (λ c. Ok (folders_changed added removed c)) w) _ w
      (IfOk-within client_in with_client (λ c. Ok (folders_changed added removed c)) w (R w)
      (tells w (folders_changed added removed client).state (folders_changed added removed client).out
      (ap (λ (c : Client). c.settings.settings.parents) (folders-do added removed client).is) (folders-pass added removed client)))
      (λ v. owed.workspaces v (folders_told_if (goes_by_folders w.state.client.settings) v.state.workspaces)
      (folders-runs 0 (goes_by_folders w.state.client.settings) v.state.workspaces).versions)

  pub told-owes : (notice : Notice) → (rereads notice ≡ true → MayReread R) → (tells_folders (Some notice) ≡ true → MayTell R) → (w : TurnState State)
      → IfOk (told notice w) (R w)
  unfolding told
  told-owes (notices.CancelRequest id) may tells w = desk-owes (λ d. Ok (cancelled id d)) w (cancelled-passes id (record { state = w.state.desk; out = w.out }))
  told-owes (notices.DidOpen document) may tells w = opened-owes (path_of document.uri) document w
  told-owes (notices.DidChange change) may tells w = changed-owes (path_of change.uri) change w
  told-owes (notices.DidClose uri) may tells w = closed-at-owes (may refl) (path_of uri) uri w
  told-owes (notices.DidSave uri) may tells w = saved-owes R owed.saying (path_of uri) uri w
  told-owes notices.DidChangeConfiguration may tells w = asking-owes R owed.saying Configuration Settings w
  told-owes (notices.DidChangeWorkspaceFolders added removed) may tells w = folders-owe (tells refl) added removed w
  told-owes (notices.DidChangeWatchedFiles urls) may tells w =
      let v : TurnState State = files_changed map.empty urls w in
      behind-owes R owed.saying w v (checks_restarted_if (restart_checks w.state.client.settings urls) v)
      (watched-owe R owed.saying (may refl) map.empty urls w)
      (restarted_if-owes R owed.saying (restart_checks w.state.client.settings urls) v)
  told-owes (notices.CancelProgress token) may tells w = told-owe R owed.saying (cancelled_under token w.state.activities.checks) w
  told-owes notices.CancelFlycheck may tells w = told-owe R owed.saying (all_cancelled w.state.activities.checks) w
  told-owes notices.ClearFlycheck may tells w = owed.saying.board w (after_act ForgetsAll w.state.board)
  told-owes (notices.RunFlycheck uri) may tells w = checks-run-owe R owed.saying uri w
  told-owes notices.AbortRunTest may tells w = tests-announced-owe R owed.saying (aborted w.state.activities.tests) w

  heard-owes : (heard : Heard) → MayReread R → (tells_folders (told_by heard) ≡ true → MayTell R) → (method : List ℕ) (w : TurnState State)
      → IfOk (noticed heard method w) (R w)
  unfolding noticed
  heard-owes (Told notice) may tells method w = told-owes notice (λ is. may) tells w
  heard-owes Malformed may tells method w = logged-owes R owed.saying _ method w
  heard-owes Unhandled may tells method w = logged-owes R owed.saying _ method w
  heard-owes Silent may tells method w = none w

  -- ---- other events

  answered-owes : (meaning : Meaning) (r : Request) (w : TurnState State) → IfOk (request_answered meaning r w) (R w)
  answered-owes meaning r w =
      two-owe (at_desk (requested meaning (scene_of w.state) r) w) _ w
      (desk-owes _ w (requested-passes meaning (scene_of w.state) r (record { state = w.state.desk; out = w.out })))
      (λ v. owed.workspaces v (request_told r w.state.desk v.state.workspaces) (request-runs 0 r w.state.desk v.state.workspaces).versions)

  requested-owes : (meaning : Meaning) (r : Request) (w : TurnState State) → IfOk (request_taken meaning r w) (R w)
  requested-owes meaning r w =
      two-owe (tests_run (run_asked_by r w.state.desk) w) (request_answered meaning r) w
      (tests-run-owe R owed.saying (run_asked_by r w.state.desk) w) (answered-owes meaning r)

  answer-owes : MayTell R → (r : Response) (w : TurnState State) → IfOk (answer_taken r w) (R w)
  answer-owes tells r w =
      let client : TurnState Client = record { state = w.state.client; out = w.out } in
      two-owe (at_client (λ c. Ok (answered r c)) w) _ w
      (IfOk-within client_in with_client (λ c. Ok (answered r c)) w (R w)
      (tells w (answered r client).state (answered r client).out
      (ap (λ (c : Client). c.settings.settings.parents) (answered-does r client).is ∙ after-parents (follows r.id client.state.asked) r client.state.settings)
      (answered-passes r client)))
      (λ v. let told : TurnState State = at_workspaces (settings_told w.state.client.settings v.state.client.settings) v in
      let other : Bool = has_other_checks w.state.client.settings v.state.client.settings in
      behind-owes R owed.saying v told (checks_renewed_if other told)
      (owed.workspaces v (settings_told w.state.client.settings v.state.client.settings v.state.workspaces)
      (settings-runs 0 w.state.client.settings v.state.client.settings v.state.workspaces).versions)
      (renewed_if-owes R owed.saying other told))

  brought-owes : (messages : List LoaderMsg) (w : TurnState State) → IfOk (loader_brought messages w) (R w)
  brought-owes messages w =
      two-owe (at_files (loaded messages) w) _ w (files-owe _ w (loaded-passes messages (record { state = w.state.files; out = w.out })))
      (λ v. owed.workspaces v (renewed_if (bring_files messages) v.state.desk.turns v.state.workspaces)
      (renewed-runs (bring_files messages) v.state.desk.turns v.state.workspaces).versions)

  loader-owes : (messages : List LoaderMsg) (w : TurnState State) → IfOk (loader_taken messages w) (R w)
  loader-owes messages w = two-owe (loader_brought messages w) _ w (brought-owes messages w)
      (told-owe R owed.saying (scans_told w.state.client.settings.root_path messages))

  fetch-taken-owes : (found : FetchEnd) (w : TurnState State) → R w (fetch_taken found w)
  unfolding fetch_taken
  fetch-taken-owes found w =
      let kept : TurnState State = at_workspaces (fetch_kept found) w in
      let v : TurnState State = at_board (after_act ForgetsAll) kept in
      owed.saying.on w kept _ (owed.workspaces w (fetch_kept found w.state.workspaces) (fetch-leaves found w.state.workspaces).2)
      (owed.saying.on kept v _ (owed.saying.board kept (after_act ForgetsAll w.state.board))
      (logged_if-owes R owed.saying FetchError (fetch_fault v.state.client.settings v.state.workspaces) v))

  build-taken-owes : (made : BuildEnd) (w : TurnState State) → R w (build_taken made w)
  unfolding build_taken
  build-taken-owes made w =
      let v : TurnState State = at_workspaces (build_kept made) w in
      owed.saying.on w v _ (owed.workspaces w (build_kept made w.state.workspaces) (build-leaves made w.state.workspaces).2)
      (logged_if-owes R owed.saying BuildError (build_fault v.state.workspaces) v)

  arrived-owes : (crates : Option CrateData) (w : TurnState State) → IfOk (crates_arrived crates w) (R w)
  unfolding crates_arrived
  arrived-owes None w = none w
  arrived-owes (Some crates) w = owed.crates crates w

  macros-owe : (told : LoadEnd) (w : TurnState State) → IfOk (macros_taken told w) (R w)
  unfolding macros_taken
  macros-owe told w =
      let v : TurnState State = at_workspaces (load_kept told) w in
      IfOk-weaker (crates_arrived (crates_loaded told w.state.workspaces) v) (R v) (R w) (arrived-owes (crates_loaded told w.state.workspaces) v)
      (λ u p. owed.saying.on w v u (owed.workspaces w (load_kept told w.state.workspaces) (load-leaves told w.state.workspaces).2) p)

  load-owes : (told : LoadEnd) (w : TurnState State) → IfOk (load_taken told w) (R w)
  unfolding load_taken
  load-owes told w = two-owe (macros_taken told w) _ w (macros-owe told w) (λ v. settled_if-owes (is_some (crates_loaded told w.state.workspaces)) v)

  work-owes : (end : WorkEnd) (w : TurnState State) → IfOk (work_taken end w) (R w)
  unfolding work_taken
  work-owes (Fetched found) w = fetch-taken-owes found w
  work-owes (Built made) w = build-taken-owes made w
  work-owes (Checked roots) w = owed.workspaces w (check_kept roots w.state.workspaces) refl
  work-owes (Loaded told) w = load-owes told w
  work-owes (Diagnosed generation pass lists) w = owed.saying.board w (lists_given generation pass lists w.state.board)
  work-owes (Tested files tests) w = notified-owes R owed.saying (tests_told w.state.files.table files tests) w

  end-owes : (end : Option WorkEnd) (w : TurnState State) → IfOk (end_taken end w) (R w)
  unfolding end_taken
  end-owes None w = none w
  end-owes (Some end) w = work-owes end w

  followed-owes : (end : Option WorkEnd) (told : List Telling) (w : TurnState State) → IfOk (work_followed end told w) (R w)
  unfolding work_followed
  followed-owes end told w = two-owe (end_taken end w) (tellings_told told) w (end-owes end w) (told-owe R owed.saying told)

  taken-owes : (meaning : Meaning) (message : TaskMsg) (w : TurnState State) → IfOk (message_taken meaning message w) (R w)
  unfolding message_taken
  taken-owes meaning message w =
      let jobs = w.state.desk.jobs in
      two-owe (at_desk (taken_at_desk meaning (scene_of w.state) message) w) _ w
      (desk-owes _ w (message-passes meaning (scene_of w.state) message (record { state = w.state.desk; out = w.out })))
      (followed-owes (work_ended message jobs) (job_told message.body (fitting_job message jobs)))

  batch-owes : (meaning : Meaning) (batch : List TaskMsg) (w : TurnState State) → IfOk (batched meaning batch w) (R w)
  batch-owes meaning [] w = none w
  batch-owes meaning (m ∷ ms) w = two-owe (message_taken meaning m w) (batched meaning ms) w (taken-owes meaning m w) (batch-owes meaning ms)

  resumed-owes : (task : DeferredTask) (w : TurnState State) → IfOk (resumed task w) (R w)
  unfolding resumed
  resumed-owes (CheckIfIndexed path) w = none w
  resumed-owes (CheckProcMacroSources files) w = spawned-owes Worker (check_kind (snapshot_of w.state) files) w

  all-resumed-owe : (tasks : List DeferredTask) (w : TurnState State) → IfOk (all_resumed tasks w) (R w)
  all-resumed-owe [] w = none w
  all-resumed-owe (task ∷ tasks) w = two-owe (resumed task w) (all_resumed tasks) w (resumed-owes task w) (all-resumed-owe tasks)

  pub happened-owes : (meaning : Meaning) (event : Event) → (notifies event ≡ true → MayReread R) → (tells_settings (Next event) ≡ true → MayTell R)
      → (w : TurnState State) → IfOk (happened meaning event w) (R w)
  unfolding happened received
  happened-owes meaning (Lsp (RequestMessage r)) may tells w = requested-owes meaning r w
  happened-owes meaning (Lsp (NotificationMessage n)) may tells w = heard-owes (heard_of n) (may refl) tells n.method w
  happened-owes meaning (Lsp (ResponseMessage r)) may tells w = answer-owes (tells refl) r w
  happened-owes meaning (Task batch) may tells w = batch-owes meaning batch w
  happened-owes meaning (Vfs messages) may tells w = loader-owes messages w
  happened-owes meaning (Deferred tasks) may tells w = all-resumed-owe tasks w
  happened-owes meaning (News news) may tells w = news-owe R owed.saying news w
  happened-owes meaning (Timer ticket) may tells w = owed.workspaces w (with_fetches (fire ticket) w.state.workspaces)
      (fire-runs 0 ticket w.state.workspaces).versions

  pub counted-owes : (w : TurnState State) → IfOk (turn_counted w) (R w)
  unfolding turn_counted
  counted-owes w = desk-owes counted_at_desk w (counted-passes (record { state = w.state.desk; out = w.out }))

  pub event-owes : MayReread R → (meaning : Meaning) (event : Event) → (tells_settings (Next event) ≡ true → MayTell R) → (w : TurnState State)
      → IfOk (event_taken meaning event w) (R w)
  unfolding event_taken
  event-owes may meaning event tells w = two-owe (turn_counted w) (happened meaning event) w (counted-owes w)
      (happened-owes meaning event (λ is. may) tells)

  -- ---- a switch, but for its workspaces and what the loader is told

  pub built-owes : (built : Bool) (w : TurnState State) → IfOk (crates_built built w) (R w)
  unfolding crates_built
  built-owes false w = none w
  built-owes true w = owed.crates (crate_data w.state.client.settings w.state.files.ids w.state.workspaces.present) w

  -- what is told behind workspaces that are present from now on
  pub switched-owes : MayRenew R → (made : Follows × Workspaces) (w : TurnState State)
      → IfOk (and_then (switch_followed made.0 w) (crates_built (builds_crates w.state.client.settings made.0))) (R w)
  switched-owes renews made w = two-owe (switch_followed made.0 w) _ w (switch-followed-owes R owed.saying renews made.0 w)
      (λ v. built-owes (builds_crates w.state.client.settings made.0) v)

  -- ---- the parts behind it

  done-owes : (w : TurnState State) → IfOk (files_done w) (R w)
  unfolding files_done
  done-owes w = IfOk-if w.state.files.loading (Ok w) (files_processed w) (R w) (none w) (owed.processes w)

  -- the workspaces come to this, and then a job is handed over
  starts : (step : Workspaces → Workspaces) (kind : JobKind) (w : TurnState State) → versions_of (step w.state.workspaces) ≡ versions_of w.state.workspaces
      → IfOk (at_desk (handed_over (snapshot_of (at_workspaces step w).state) Worker kind) (at_workspaces step w)) (R w)
  starts step kind w same =
      let v : TurnState State = at_workspaces step w in
      IfOk-weaker _ (R v) (R w) (spawned-owes Worker kind v) (λ u q. owed.saying.on w v u (owed.workspaces w (step w.state.workspaces) same) q)

  fetch-spawned : (may : Bool) (request : Option (List ℕ × FetchRequest)) (w : TurnState State)
      → IfOk (fetch_handed_over request (at_workspaces (with_fetches (start_fetch may)) w)) (R w)
  unfolding fetch_handed_over
  fetch-spawned may None w = owed.workspaces w (with_fetches (start_fetch may) w.state.workspaces) refl
  fetch-spawned may (Some request) w = starts (with_fetches (start_fetch may)) (fetch_kind w.state.client.settings request.1) w refl

  fetch-owes : (may : Bool) (w : TurnState State) → IfOk (fetch_started may w) (R w)
  unfolding fetch_started
  fetch-owes may w = fetch-spawned may (fetch_to_start may w.state.workspaces.fetches) w

  build-spawned : (version : Option ℕ) (w : TurnState State) → IfOk (build_handed_over version (at_workspaces with_due_build w)) (R w)
  unfolding build_handed_over
  build-spawned None w = owed.workspaces w (with_due_build w.state.workspaces) refl
  build-spawned (Some version) w = starts with_due_build (FetchBuildData version) w refl

  build-owes : (w : TurnState State) → IfOk (build_started w) (R w)
  unfolding build_started
  build-owes w = build-spawned (build_due w.state.workspaces) w

  load-spawned : (build : Option ℕ) (paths : Option MacroPaths) (w : TurnState State)
      → IfOk (load_handed_over paths (at_workspaces (with_due_load build) w)) (R w)
  unfolding load_handed_over
  load-spawned build None w = owed.workspaces w (with_due_load build w.state.workspaces) refl
  load-spawned build (Some paths) w = starts (with_due_load build) (load_kind w.state.client.settings paths) w refl

  load-started-owes : (build : Option ℕ) (w : TurnState State) → IfOk (load_started build w) (R w)
  unfolding load_started
  load-started-owes build w = load-spawned build (load_due build w.state.workspaces) w

  runs-owe : (w : TurnState State) → IfOk (runs_started w) (R w)
  unfolding runs_started
  runs-owe w = two-owe (build_started w) _ w (build-owes w) (λ v. load-started-owes (build_due w.state.workspaces) v)

  -- the jobs that were handed over are out, and a timer is ordered where a fetch waits for it
  pub kept-owes : (before : ℕ) (w : TurnState State) → IfOk (desk_kept before w) (R w)
  unfolding desk_kept
  kept-owes before w = desk-owes (λ d. Ok (kept_at_desk before d)) w (kept-passes before (record { state = w.state.desk; out = w.out }))

  pub timer-owes : (w : TurnState State) → R w (timer_set w)
  unfolding timer_set
  timer-owes w = owes-if R owed.saying (fires w.state.desk.turns w.state.workspaces.fetches.waiting) w (ordered (SetTimer w.state.desk.turns) w) w
      (owed.times w.state.desk.turns w) (none w)

  -- with the revision, where it is told so
  pub closed-owes : ((revision : ℕ) (w : TurnState State) → R w (ordered (Revise revision) w)) → (facts : FactsBefore) (w : TurnState State)
      → IfOk (turn_closed facts w) (R w)
  unfolding revised
  closed-owes revises facts w =
      two-owe (desk_kept facts.ordered w) _ w (kept-owes facts.ordered w)
      (λ v. let revision : ℕ = v.state.files.host.revision in
      owed.saying.on v _ _ (owes-if R owed.saying (revision == facts.revision) v v (ordered (Revise revision) v) (none v) (revises revision v))
      (timer-owes (revised facts.revision v)))

  -- ---- batches

  all-asked-owe : (kinds : List JobKind) (w : TurnState State) → IfOk (all_asked kinds w) (R w)
  unfolding all_asked
  all-asked-owe [] w = none w
  all-asked-owe (kind ∷ kinds) w =
      two-owe (at_desk (handed_over (snapshot_of w.state) Latency kind) w) (all_asked kinds) w (spawned-owes Latency kind w) (all-asked-owe kinds)

  batch-asked-owes : (w : TurnState State) → IfOk (batch_asked w) (R w)
  unfolding batch_asked
  batch-asked-owes w =
      let v : TurnState State = at_board (batch_counted w.state.client.settings) w in
      IfOk-weaker (all_asked (batch_kinds w.state) v) (R v) (R w) (all-asked-owe (batch_kinds w.state) v)
      (λ u q. owed.saying.on w v u (owed.saying.board w (batch_counted w.state.client.settings w.state.board)) q)

  pub batch-done-owes : (came : Bool) (facts : FactsBefore) (w : TurnState State) → IfOk (batch_done came facts w) (R w)
  unfolding batch_done
  batch-done-owes came facts w = IfOk-if (is_batch_due facts.quiescent (is_quiescent w.state.files w.state.workspaces) facts.processed came) (batch_asked w) (Ok w) (R w) (batch-asked-owes w) (none w)

  quiet-owes : (input : Input) (facts : FactsBefore) (w : TurnState State) → IfOk (quiet_done input facts w) (R w)
  unfolding quiet_done
  quiet-owes input facts w =
      two-owe (checks_done facts w) _ w (checks-done-owe R owed.saying facts w)
      (λ v. two-owe (refreshes_done facts v) (batch_done (came_or_went input) facts) v (refreshes-owe R owed.saying facts v)
      (batch-done-owes (came_or_went input) facts))

  -- ---- whole turns

  parts_owed : Parts R
  unfolding saves_registered begun_fetches
  parts_owed = record {
    quiet = quiet-owes;
    publish = marked-owe R owed.saying;
    fetch = fetch-owes;
    runs = runs-owe;
    status = status-owes R owed.saying;
    registers = λ w. asked_if-owes R owed.saying _ _ w;
    begins = λ w. owed.workspaces w (with_fetches (start_up (discovers w.state.client.settings)) w.state.workspaces)
        (begin-runs 0 (discovers w.state.client.settings) w.state.workspaces).versions;
  }

  -- what is so behind a switch, by what was so before it, and is kept by each step, is so where the turn is closed
  pub walk : (meaning : Meaning) (s : State) (input : Input) (P Q Goal : TurnState State → Type 0) (keeps : Keeps R Q)
      (switches : (w : TurnState State) → P w → IfOk (switch_done w) Q) → Begins meaning s input P Q → Closes Q Goal (facts_before (turn_start s))
      → IfOk (step meaning input (turn_start s)) Goal
  walk meaning s input P Q Goal keeps switches first closes =
      turn-ends R parts_owed meaning s input P Q Q Goal keeps switches
      (λ w q. IfOk-weaker (files_done w) (R w) Q (done-owes w) (λ v p. keeps w v q p)) first closes
