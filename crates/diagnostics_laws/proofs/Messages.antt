-- What an event, a switch and files that are processed do on the board fits the session, and publishes nothing.
use Rattle.std.proofs.Common.{◌≡◌, ℕ, ◌≤◌, List, [], ◌∷◌, ◌++◌, Bool, true, false, refl, sym, ap, ◌∙◌, subst}
use Rattle.std.specs.Prelude.{◌&&◌, cond, nat_eq, Option, None, Some, is_some, Result, Ok, Err, IfOk, if◌then◌else◌}
use Rattle.std.specs.Option.{option_map}
use Rattle.std.specs.FinMap as map
use Rattle.activities.specs.Announced.{Announced}
use Rattle.activities.specs.Checks.{Checks as ChecksKept, all_cancelled, progressed}
use Rattle.activities.specs.Scanning.{scans_told}
use Rattle.activities.specs.TestRun.{Tests, aborted}
use Rattle.activities.specs.Work.{graph_told, job_told}
use Rattle.activities.specs.declared.telling.Telling.{Telling}
use Rattle.plain.specs.Texts.{text_cmp}
use Rattle.docs_vfs.specs.FileUrls.{path_of}
use Rattle.docs_vfs.specs.Files.{Files, id_by, id_in, path_at}
use Rattle.docs_vfs.specs.declared.file_kinds.ChangedFile.{ChangedFile}
use Rattle.docs_vfs.specs.declared.file_kinds.FileExcluded.{FileExcluded}
use Rattle.docs_vfs.specs.declared.file_kinds.FileExcluded.TheVariants.{No, Yes}
use Rattle.docs_vfs.specs.declared.file_kinds.FileId.{FileId}
use Rattle.docs_vfs.specs.declared.file_kinds.FileRow.{FileRow}
use Rattle.docs_vfs.specs.declared.file_kinds.RowState.{RowState}
use Rattle.docs_vfs.specs.declared.file_kinds.RowState.TheVariants.{Nothing as NoContents, Contents, Excluded}
use Rattle.docs_vfs.specs.declared.file_url.UrlFault.{UrlFault}
use Rattle.lsp_frame.specs.declared.message.Request.{Request}
use Rattle.lsp_frame.specs.declared.message.Response.{Response}
use Rattle.lsp_frame.specs.declared.message.Message.TheVariants.{Request as RequestMessage, Notification as NotificationMessage}
use Rattle.lsp_frame.specs.declared.message.Message.TheVariants.{Response as ResponseMessage}
use Rattle.lsp_types.specs.declared.diagnostic.Diagnostic.{Diagnostic}
use Rattle.method_table.specs.declared.class.PoolClass.TheVariants.{Worker}
use Rattle.method_table.specs.declared.request.RunTest.{RunTest}
use Rattle.op_board.specs.Acts.{Act, gives, step as after_act}
use Rattle.op_board.specs.Acts.Act.{Adds, Clears, ForgetsAll, Gives}
use Rattle.op_board.specs.Board.{Board}
use Rattle.op_board.specs.Runs.{same_file, same_pass}
use Rattle.op_board.specs.declared.diagnostic.NativePass.{NativePass}
use Rattle.project_model.specs.declared.crates.CrateData.{CrateData}
use Rattle.serde_json.specs.Data.{Data}
use Rattle.change_effects.specs.declared.effects.ChangeEffects.{ChangeEffects}
use Rattle.change_effects.specs.declared.effects.SettingsFile.{SettingsFile}
use Rattle.session_port.specs.Jobs.{Jobs, after_batch, fitting_job, jobs_after}
use Rattle.session_port.specs.TurnState.{TurnState, and_then, logged, ordered, written}
use Rattle.session_port.specs.declared.command.Command.TheVariants.{Defer, Invalidate}
use Rattle.session_port.specs.declared.command.DeferredTask.{DeferredTask}
use Rattle.session_port.specs.declared.command.DeferredTask.TheVariants.{CheckIfIndexed, CheckProcMacroSources}
use Rattle.session_port.specs.declared.command.LogCode.TheVariants.{BadPath, BuildError, FetchError, SecondSettingsFile, SettingsError}
use Rattle.session_port.specs.declared.command.LogCode.TheVariants.{UnknownSave}
use Rattle.session_port.specs.declared.event.LoaderMsg.{LoaderMsg}
use Rattle.session_port.specs.declared.event.TaskMsg.{TaskMsg}
use Rattle.session_port.specs.declared.fault.Counter.{Counter}
use Rattle.session_port.specs.declared.news.FlycheckMsg.{FlycheckMsg}
use Rattle.session_port.specs.declared.news.FlycheckMsg.TheVariants as checks
use Rattle.client.specs.Answers.{chooses, fault_in}
use Rattle.client.specs.Client.{Client}
use Rattle.client.specs.Folds.{follows}
use Rattle.client.specs.Steps.{answered, folders_changed, followed, logged_if, notification_of}
use Rattle.client.specs.declared.handler.ReqHandler.{ReqHandler}
use Rattle.client.specs.declared.handler.ReqHandler.TheVariants.{Ignore, OpenLogs, Settings}
use Rattle.notify.specs.declared.notice.DidChange.{DidChange}
use Rattle.notify.specs.declared.notice.DidOpen.{DidOpen}
use Rattle.notify.specs.declared.notice.Notice.{Notice}
use Rattle.notify.specs.declared.notice.Notice.TheVariants as notices
use Rattle.notify.specs.declared.outgo.Outgo.TheVariants.{Configuration, DiagnosticRefresh, OpenLogs as OpenLogsMessage}
use Rattle.desk.specs.Desk.{Desk}
use Rattle.desk.specs.Meaning.{Meaning}
use Rattle.desk.specs.Steps.{cancelled, counted as counted_at_desk, requested, result_taken as taken_at_desk}
use Rattle.desk.specs.WorkEnds.{BuildEnd, FetchEnd, LoadEnd, work_ended}
use Rattle.desk.specs.declared.state.ends.WorkEnd.{WorkEnd}
use Rattle.desk.specs.declared.state.ends.WorkEnd.TheVariants.{Fetched, Built, Checked, Loaded, Diagnosed, Tested}
use Rattle.desk_laws.proofs.Results.{IfOk-and_then, IfOk-if, IfOk-weaker, IfOk-within}
use Rattle.session_files.specs.Current.{IsSound}
use Rattle.session_files.specs.Folds.{changed_files}
use Rattle.session_files.specs.SessionFiles.{SessionFiles}
use Rattle.session_files.specs.Steps.{closed_document, crates_put, loaded, processed}
use Rattle.workspaces.specs.Fetches.{fire}
use Rattle.workspaces.specs.Workspaces.{Workspaces}
use Rattle.workspaces.specs.declared.follows.Follows.{Follows}
use Rattle.workspaces.specs.declared.follows.Follows.TheVariants.{Nothing, CrateData as CratesAnew, Wait, GoOn}
use Rattle.session_model.specs.Building.{build_kept, request_told}
use Rattle.session_model.specs.Checking.{check_kept, check_kind}
use Rattle.session_model.specs.Crates.{builds_crates, crate_data, is_unknown}
use Rattle.session_model.specs.Diagnosing.{deleted_cleared, found_in, is_deletion, lists_cleared, outdated_act, tests_told}
use Rattle.session_model.specs.Fetching.{fetch_kept, folders_told_if, settings_told, with_fetches}
use Rattle.session_model.specs.Hearing.{heard_of}
use Rattle.session_model.specs.Inputs.{batch_of}
use Rattle.session_model.specs.Loading.{crates_loaded, load_kept}
use Rattle.session_model.specs.Machine.{all_resumed, answer_taken, at_board, at_client, at_desk, at_files, at_workspaces, batched, build_taken, check_told}
use Rattle.session_model.specs.Machine.{checks_announced, checks_heard, checks_renewed_if, checks_restarted_if, checks_run, checks_told}
use Rattle.session_model.specs.Machine.{crates_settled_if, file_checked_if, loader_brought, request_answered, saved_file, tellings_told}
use Rattle.session_model.specs.Machine.{tests_announced, tests_heard, tests_run, work_followed}
use Rattle.session_model.specs.Machine.{crates_arrived, crates_built, desk_in, document_changed_at, document_closed_at, document_opened_at}
use Rattle.session_model.specs.Machine.{effects_done, end_taken}
use Rattle.session_model.specs.Machine.{event_taken, fetch_taken, fetch_waits, file_changed, files_changed, files_done, files_followed}
use Rattle.session_model.specs.Machine.{files_processed}
use Rattle.session_model.specs.Machine.{folders_taken, found_added, further_logged, happened, load_taken, loader_set, loader_taken, macros_taken}
use Rattle.session_model.specs.Machine.{message_taken, news_taken, noticed}
use Rattle.session_model.specs.Machine.{received, request_taken, resumed, roots_renewed, save_noted, saved_at, settings_filed, sources_deferred}
use Rattle.session_model.specs.Machine.{switch_done, switch_followed}
use Rattle.session_model.specs.Machine.{switch_taken, told, turn_counted, warned, watchers_registered, with_client, with_desk, with_sources}
use Rattle.session_model.specs.Machine.{work_taken}
use Rattle.session_model.specs.Restarting.{cancelled_under, checks_all_on_save, checks_on_save, has_other_checks, restart_checks}
use Rattle.session_model.specs.Saving.{path_saved}
use Rattle.session_model.specs.Sources.{change_for, client_with, further_files, parents_told}
use Rattle.session_model.specs.State.{State, columns_in, excludes_in, goes_by_folders, scene_of, snapshot_of}
use Rattle.session_model.specs.Status.{build_fault, fetch_fault}
use Rattle.session_model.specs.Switching.{switch_made}
use Rattle.session_model.specs.Testing.{run_asked_by}
use Rattle.session_model.specs.Timing.{bring_files, effects_for, fetch_planned, renewed_if}
use Rattle.session_model.specs.declared.heard.Heard.{Heard}
use Rattle.session_model.specs.declared.heard.Heard.TheVariants.{Told, Malformed, Unhandled, Silent}
use Rattle.session_model.specs.declared.input.Event.{Event}
use Rattle.session_model.specs.declared.input.Event.TheVariants.{Lsp, Task, Vfs, Deferred, News, Timer}
use Rattle.session_model.specs.declared.input.Input.{Input}
use Rattle.session_model.specs.declared.input.Input.TheVariants.{Next}
use Rattle.session_model.specs.declared.input.News.{News as NewsData}
use Rattle.session_model.specs.declared.input.News.TheVariants as told_news
use Rattle.session_laws.proofs.Announcing as saying
use Rattle.session_laws.proofs.Announcing.{Announces, announcing, written-unpublished}
use Rattle.diagnostics_laws.proofs.KeyedBools.{none-some, some-is}
use Rattle.diagnostics_laws.proofs.MessagesEnds.{AreKnown, EndFits, JobsFit, ended-fits, gives-fit}
use Rattle.diagnostics_laws.specs.Batches.{brought_by, brought_past, list_among}
use Rattle.diagnostics_laws.proofs.Sounding.{AreAmong, Bringing, Goes, GoesBy, acts-one, announced-goes, announces-go, behind-goes, brings_none, goes-by, left_out, asked_if-goes, asking-goes}
use Rattle.diagnostics_laws.proofs.Sounding.{client-goes, desk-goes, files-goes, goes-generation, goes-if, goes-on, goes-then, itself}
use Rattle.diagnostics_laws.proofs.Sounding.{logged-goes, logged_if-goes, notified-goes, ordered-goes, still, told-go, told_in, warned-goes}
use Rattle.diagnostics_laws.proofs.Sounding.{workspaces-go}
use Rattle.diagnostics_laws.proofs.SoundingDesk.{DeskStep, EndStep, after-among, cancelled-step, counted-step, requested-step, spawned-step, taken-step}
use Rattle.diagnostics_laws.proofs.SoundingFiles.{changed-step, closed-step, crates-step, loaded-step, opened-step, processed-step}
use Rattle.diagnostics_laws.proofs.StoringBatches.{Lists, last_given}
use Rattle.diagnostics_laws.proofs.StoringGenerations.{Fits}

-- ---- files that changed

deletion-goes : (b : Bool) (file : ChangedFile) (w : TurnState State)
    → Goes w (at_board (λ board. if b then after_act (Clears file.file) board else board) w)
deletion-goes true file w = acts-one (Clears file.file) w tt (λ pass generation file run. refl)
deletion-goes false file w = still w _ refl refl refl refl

deleted-go : (files : List ChangedFile) (w : TurnState State) → Goes w (at_board (deleted_cleared files) w)
deleted-go [] w = still w _ refl refl refl refl
deleted-go (file ∷ files) w =
    let v : TurnState State = at_board (λ board. if is_deletion file.kind then after_act (Clears file.file) board else board) w in
    goes-on w v (at_board (deleted_cleared files) v) (deletion-goes (is_deletion file.kind) file w) (deleted-go files v)

further-go : (paths : List (List ℕ)) (w : TurnState State) → Goes w (further_logged paths w)
unfolding further_logged
further-go [] w = itself w
further-go (path ∷ paths) w =
    let v : TurnState State = logged SecondSettingsFile path w in goes-on w v _ (logged-goes SecondSettingsFile path w) (further-go paths v)

filed-goes : (files : List SettingsFile) (w : TurnState State) → Goes w (settings_filed files w)
unfolding settings_filed
filed-goes files w =
    let change = change_for files w.state.files.host.world.roots w.state.sources w.state.workspaces.present in
    let put : TurnState State = record w {
      state = with_sources (parents_told w.state.sources)
          (with_client (client_with change w.state.client) w.state);
    } in
    goes-on w put _ (still w put refl refl refl refl) (further-go (further_files change) put)

deferred-goes : (sources : Option (List FileId)) (w : TurnState State) → Goes w (sources_deferred sources w)
unfolding sources_deferred
deferred-goes None w = itself w
deferred-goes (Some files) w = ordered-goes (Defer (CheckProcMacroSources files)) w

followed-goes : (changes : List ChangedFile) (w : TurnState State) → Goes w (files_followed changes w)
unfolding files_followed effects_done fetch_waits
followed-goes [] w = itself w
followed-goes (change ∷ changes) w =
    let effects : ChangeEffects = effects_for w.state.client.settings (change ∷ changes) w.state.workspaces in
    let cleared : TurnState State = at_board (deleted_cleared (change ∷ changes)) w in
    let filed : TurnState State = settings_filed effects.settings cleared in
    let deferred : TurnState State = sources_deferred effects.macro_sources filed in
    goes-on w cleared _ (deleted-go (change ∷ changes) w)
    (goes-on cleared filed _ (filed-goes effects.settings cleared)
    (goes-on filed deferred _ (deferred-goes effects.macro_sources filed)
    (workspaces-go (fetch_planned deferred.state.desk.turns effects.fetch) deferred)))

processed-goes : (w : TurnState State) → IfOk (files_processed w) (Goes w)
unfolding files_processed
processed-goes w =
    goes-then (at_files (processed w.state.sources.roots) w) (λ v. Ok (files_followed (changed_files w.state.files) v)) w
    (files-goes (processed w.state.sources.roots) w (processed-step w.state.sources.roots (record { state = w.state.files; out = w.out })))
    (λ v. followed-goes (changed_files w.state.files) v)

pub files-done-go : (w : TurnState State) → IfOk (files_done w) (Goes w)
unfolding files_done
files-done-go w = IfOk-if w.state.files.loading (Ok w) (files_processed w) (Goes w) (itself w) (processed-goes w)

-- ---- the switch

crates-go : (crates : CrateData) (w : TurnState State) → IfOk (at_files (crates_put w.state.sources.roots crates) w) (Goes w)
crates-go crates w = files-goes _ w (crates-step w.state.sources.roots crates (record { state = w.state.files; out = w.out }))

built-goes : (built : Bool) (w : TurnState State) → IfOk (crates_built built w) (Goes w)
unfolding crates_built
built-goes false w = itself w
built-goes true w = crates-go (crate_data w.state.client.settings w.state.files.ids w.state.workspaces.present) w

set-goes : (version : ℕ) (w : TurnState State) → Goes w (roots_renewed (loader_set version w))
unfolding roots_renewed loader_set ordered
set-goes version w = still w _ refl refl refl refl

switch-followed-goes : (follows : Follows) (w : TurnState State) → IfOk (switch_followed follows w) (Goes w)
unfolding switch_followed watchers_registered
switch-followed-goes Nothing w = itself w
switch-followed-goes CratesAnew w = told-go graph_told w
switch-followed-goes (Wait msrv) w = warned-goes msrv w
switch-followed-goes (GoOn msrv version initial) w =
    let v : TurnState State = warned msrv w in
    let next : TurnState State → Result (TurnState State) Counter = λ u. tellings_told graph_told (roots_renewed (loader_set version u)) in
    behind-goes w v (and_then (watchers_registered v) next) (warned-goes msrv w)
    (goes-then (watchers_registered v) next v (asked_if-goes _ _ v)
    (λ u. behind-goes u (roots_renewed (loader_set version u)) (next u) (set-goes version u)
    (told-go graph_told (roots_renewed (loader_set version u)))))

switch-made-goes : (made : Result (Follows × Workspaces) Counter) (w : TurnState State) → IfOk (switch_taken made w) (Goes w)
unfolding switch_taken
switch-made-goes (Err counter) w = tt
switch-made-goes (Ok made) w =
    let v : TurnState State = at_workspaces (λ before. made.1) w in
    IfOk-weaker (and_then (switch_followed made.0 v) (crates_built (builds_crates w.state.client.settings made.0))) (Goes v) (Goes w)
    (goes-then (switch_followed made.0 v) _ v (switch-followed-goes made.0 v) (built-goes (builds_crates w.state.client.settings made.0)))
    (λ u p. goes-on w v u (workspaces-go (λ before. made.1) w) p)

pub switch-goes : (w : TurnState State) → IfOk (switch_done w) (Goes w)
unfolding switch_done
switch-goes w = switch-made-goes (switch_made w.state.client.settings w.state.files w.state.workspaces) w

-- ---- checks

restarted_if-goes : (b : Bool) (w : TurnState State) → IfOk (checks_restarted_if b w) (Goes w)
restarted_if-goes b w = announced-goes (checks_restarted_if b w) w (saying.restarted_if-owes Announces announcing b w)

renewed_if-goes : (b : Bool) (w : TurnState State) → IfOk (checks_renewed_if b w) (Goes w)
renewed_if-goes b w = announced-goes (checks_renewed_if b w) w (saying.renewed_if-owes Announces announcing b w)

-- ---- notifications

opened-goes : (o : Result (List ℕ) UrlFault) (document : DidOpen) (w : TurnState State) → IfOk (document_opened_at o document w) (Goes w)
unfolding document_opened_at
opened-goes (Err fault) document w = logged-goes _ document.uri w
opened-goes (Ok path) document w =
    files-goes _ w (opened-step (excludes_in w.state.client.settings) path document.version
    document.text (record { state = w.state.files; out = w.out }))

changed-goes : (o : Result (List ℕ) UrlFault) (change : DidChange) (w : TurnState State) → IfOk (document_changed_at o change w) (Goes w)
unfolding document_changed_at
changed-goes (Err fault) change w = logged-goes _ change.uri w
changed-goes (Ok path) change w =
    files-goes _ w (changed-step (columns_in w.state.client.settings) path change.version
    change.changes (record { state = w.state.files; out = w.out }))

cleared-goes : (o : Option (FileId × FileExcluded)) (w : TurnState State) → Goes w (at_board (lists_cleared o) w)
cleared-goes None w = still w _ refl refl refl refl
cleared-goes (Some file) w = acts-one (Clears file.0) w tt (λ pass generation file run. refl)

closed-goes : (o : Result (List ℕ) UrlFault) (uri : List ℕ) (w : TurnState State) → IfOk (document_closed_at o uri w) (Goes w)
unfolding document_closed_at
closed-goes (Err fault) uri w = logged-goes _ uri w
closed-goes (Ok path) uri w =
    let cleared : TurnState State = at_board (lists_cleared (map.get w.state.files.ids path)) w in
    IfOk-weaker (at_files (λ f. Ok (closed_document path f)) cleared) (Goes cleared) (Goes w)
    (files-goes (λ f. Ok (closed_document path f)) cleared (closed-step path (record { state = w.state.files; out = w.out })))
    (λ v p. goes-on w cleared v (cleared-goes (map.get w.state.files.ids path) w) p)

noted-goes : (unknown : Bool) (path : List ℕ) (w : TurnState State) → Goes w (save_noted unknown path w)
unfolding save_noted
noted-goes true path w = logged-goes UnknownSave path w
noted-goes false path w = itself w

saved-file-goes : (path : List ℕ) (w : TurnState State) → Goes w (saved_file path w)
saved-file-goes path w =
    let noted : TurnState State = save_noted (is_unknown w.state.files.ids path) path w in
    goes-on w noted _ (noted-goes (is_unknown w.state.files.ids path) path w)
    (workspaces-go (path_saved w.state.client.settings w.state.files path) noted)

saved-goes : (o : Result (List ℕ) UrlFault) (uri : List ℕ) (w : TurnState State) → IfOk (saved_at o uri w) (Goes w)
unfolding saved_at
saved-goes (Err fault) uri w =
    let v : TurnState State = logged BadPath uri w in
    behind-goes w v (checks_restarted_if (checks_all_on_save w.state.client.settings) v) (logged-goes BadPath uri w)
    (restarted_if-goes (checks_all_on_save w.state.client.settings) v)
saved-goes (Ok path) uri w =
    let on_save : Bool = checks_on_save w.state.client.settings w.state.files.host.world.roots path in
    behind-goes w (saved_file path w) (file_checked_if on_save path (saved_file path w)) (saved-file-goes path w)
    (announced-goes (file_checked_if on_save path (saved_file path w)) (saved_file path w)
    (saying.checked_if-owes Announces announcing on_save path (saved_file path w)))

reread-goes : (url : List ℕ) (o : Result (List ℕ) UrlFault) (w : TurnState State) → Goes w (file_changed url o w)
unfolding file_changed
reread-goes url (Err fault) w = logged-goes _ url w
reread-goes url (Ok path) w = ordered-goes (Invalidate path) w

watched-go : (seen : map.FinMap text_cmp (Unit {0})) (urls : List (List ℕ)) (w : TurnState State) → Goes w (files_changed seen urls w)
unfolding files_changed
watched-go seen [] w = itself w
watched-go seen (url ∷ urls) w =
    let v : TurnState State = file_changed url (path_of url) w in
    let more = map.insert seen url tt in
    goes-if (is_some (map.get seen url)) w (files_changed seen urls w) (files_changed more urls v) (watched-go seen urls w)
    (goes-on w v _ (reread-goes url (path_of url) w) (watched-go more urls v))

folders-told : (added removed : List (List ℕ)) (w : TurnState Client) → told_in (folders_changed added removed w).out ≡ told_in w.out
unfolding folders_changed
folders-told added removed w = refl

folders-go : (added removed : List (List ℕ)) (w : TurnState State) → IfOk (folders_taken added removed w) (Goes w)
folders-go added removed w =
    goes-then _ (λ v. Ok (at_workspaces (folders_told_if (goes_by_folders w.state.client.settings)) v)) w
    (client-goes (λ c. Ok (folders_changed added removed c)) w (folders-told added removed (record { state = w.state.client; out = w.out })))
    (λ v. workspaces-go (folders_told_if (goes_by_folders w.state.client.settings)) v)

told-goes : (notice : Notice) (w : TurnState State) → IfOk (told notice w) (Goes w)
unfolding told
told-goes (notices.CancelRequest id) w = desk-goes (λ d. Ok (cancelled id d)) w (cancelled-step id (record { state = w.state.desk; out = w.out }))
told-goes (notices.DidOpen document) w = opened-goes (path_of document.uri) document w
told-goes (notices.DidChange change) w = changed-goes (path_of change.uri) change w
told-goes (notices.DidClose uri) w = closed-goes (path_of uri) uri w
told-goes (notices.DidSave uri) w = saved-goes (path_of uri) uri w
told-goes notices.DidChangeConfiguration w = asking-goes Configuration Settings w
told-goes (notices.DidChangeWorkspaceFolders added removed) w = folders-go added removed w
told-goes (notices.DidChangeWatchedFiles changes) w =
    let restarts : Bool = restart_checks w.state.client.settings changes in
    let v : TurnState State = files_changed map.empty changes w in
    behind-goes w v (checks_restarted_if restarts v) (watched-go map.empty changes w) (restarted_if-goes restarts v)
told-goes (notices.CancelProgress token) w = told-go (cancelled_under token w.state.activities.checks) w
told-goes notices.CancelFlycheck w = told-go (all_cancelled w.state.activities.checks) w
told-goes notices.ClearFlycheck w = acts-one ForgetsAll w tt (λ pass generation file run. refl)
told-goes (notices.RunFlycheck uri) w = announced-goes (checks_run uri w) w (saying.checks-run-owe Announces announcing uri w)
told-goes notices.AbortRunTest w =
    let told : Announced Tests = aborted w.state.activities.tests in
    announced-goes (tests_announced told w) w (saying.tests-announced-owe Announces announcing told w)

heard-goes : (heard : Heard) (method : List ℕ) (w : TurnState State) → IfOk (noticed heard method w) (Goes w)
unfolding noticed
heard-goes (Told notice) method w = told-goes notice w
heard-goes Malformed method w = logged-goes _ method w
heard-goes Unhandled method w = logged-goes _ method w
heard-goes Silent method w = itself w

-- ---- requests and answers

request-answered-goes : (meaning : Meaning) (r : Request) (w : TurnState State) → IfOk (request_answered meaning r w) (Goes w)
request-answered-goes meaning r w =
    goes-then (at_desk (requested meaning (scene_of w.state) r) w) _ w
    (desk-goes _ w (requested-step meaning (scene_of w.state) r (record { state = w.state.desk; out = w.out })))
    (λ v. workspaces-go (request_told r w.state.desk) v)

requested-goes : (meaning : Meaning) (r : Request) (w : TurnState State) → IfOk (request_taken meaning r w) (Goes w)
requested-goes meaning r w =
    let run : Option RunTest = run_asked_by r w.state.desk in
    goes-then (tests_run run w) (request_answered meaning r) w
    (announced-goes (tests_run run w) w (saying.tests-run-owe Announces announcing run w)) (request-answered-goes meaning r)

logs-told : {S : Type 0} (fault : Option (List ℕ)) (w : TurnState S) → told_in (logged_if SettingsError fault w).out ≡ told_in w.out
unfolding logged ordered
logs-told None w = refl
logs-told (Some text) w = refl

shows-told : (b : Bool) (w : TurnState Client) → told_in (if b then written (notification_of OpenLogsMessage) w else w).out ≡ told_in w.out
shows-told true w = written-unpublished (notification_of OpenLogsMessage) w refl
shows-told false w = refl

followed-told : (handler : Option ReqHandler) (response : Response) (w : TurnState Client) → told_in (followed handler response w).out ≡ told_in w.out
unfolding followed logged ordered
followed-told None response w = refl
followed-told (Some Ignore) response w = refl
followed-told (Some Settings) response w = logs-told (fault_in response) w
followed-told (Some OpenLogs) response w = shows-told (chooses response) w

answered-told : (response : Response) (w : TurnState Client) → told_in (answered response w).out ≡ told_in w.out
unfolding answered
answered-told response w = followed-told (follows response.id w.state.asked) response w

answer-goes : (r : Response) (w : TurnState State) → IfOk (answer_taken r w) (Goes w)
answer-goes r w =
    goes-then (at_client (λ c. Ok (answered r c)) w) _ w
    (client-goes (λ c. Ok (answered r c)) w (answered-told r (record { state = w.state.client; out = w.out })))
    (λ v. let u : TurnState State = at_workspaces (settings_told w.state.client.settings v.state.client.settings) v in
    let renews : Bool = has_other_checks w.state.client.settings v.state.client.settings in
    behind-goes v u (checks_renewed_if renews u) (workspaces-go (settings_told w.state.client.settings v.state.client.settings) v)
    (renewed_if-goes renews u))

-- ---- what jobs end

fetch-taken-goes : (found : FetchEnd) (w : TurnState State) → Goes w (fetch_taken found w)
unfolding fetch_taken
fetch-taken-goes found w =
    let kept : TurnState State = at_workspaces (fetch_kept found) w in
    let v : TurnState State = at_board (after_act ForgetsAll) kept in
    goes-on w kept _ (workspaces-go (fetch_kept found) w)
    (goes-on kept v _ (acts-one ForgetsAll kept tt (λ pass generation file run. refl))
    (logged_if-goes FetchError (fetch_fault v.state.client.settings v.state.workspaces) v))

build-taken-goes : (made : BuildEnd) (w : TurnState State) → Goes w (build_taken made w)
unfolding build_taken
build-taken-goes made w =
    let v : TurnState State = at_workspaces (build_kept made) w in
    goes-on w v _ (workspaces-go (build_kept made) w) (logged_if-goes BuildError (build_fault v.state.workspaces) v)

arrived-goes : (crates : Option CrateData) (w : TurnState State) → IfOk (crates_arrived crates w) (Goes w)
unfolding crates_arrived
arrived-goes None w = itself w
arrived-goes (Some crates) w = crates-go crates w

macros-go : (told : LoadEnd) (w : TurnState State) → IfOk (macros_taken told w) (Goes w)
unfolding macros_taken
macros-go told w =
    let v : TurnState State = at_workspaces (load_kept told) w in
    IfOk-weaker (crates_arrived (crates_loaded told w.state.workspaces) v) (Goes v) (Goes w) (arrived-goes (crates_loaded told w.state.workspaces) v)
    (λ u p. goes-on w v u (workspaces-go (load_kept told) w) p)

settled_if-goes : (b : Bool) (w : TurnState State) → IfOk (crates_settled_if b w) (Goes w)
unfolding crates_settled_if
settled_if-goes true w = goes-then (files_processed w) (checks_renewed_if true) w (processed-goes w) (renewed_if-goes true)
settled_if-goes false w = itself w

load-goes : (told : LoadEnd) (w : TurnState State) → IfOk (load_taken told w) (Goes w)
unfolding load_taken
load-goes told w = goes-then (macros_taken told w) _ w (macros-go told w) (settled_if-goes (is_some (crates_loaded told w.state.workspaces)))

-- one list of several
one-brings : (t u v : Bool) (new : List Diagnostic) (old : Lists) (later : Lists → Lists)
    → (if t && v then later (cond (t && u && v) (Some new) old) else cond (t && u && v) (Some new) old)
    ≡ (if t && v then later (if u then Some new else old) else old)
one-brings true true true new old later = refl
one-brings true false true new old later = refl
one-brings true true false new old later = refl
one-brings true false false new old later = refl
one-brings false u v new old later = refl

gives-brings : (p : NativePass) (h : ℕ) (lists : List (FileId × List Diagnostic)) (acts : List Act) (pass : NativePass) (generation : ℕ)
    (file : FileId)
    (run : List Act) → last_given pass generation file (gives p h lists acts ++ run)
    ≡ (if same_pass pass p && nat_eq generation h then list_among file lists (last_given pass generation file (acts ++ run))
    else last_given pass generation file (acts ++ run))
gives-brings p h [] acts pass generation file run = same-if (same_pass pass p && nat_eq generation h)
  where
    same-if : (b : Bool) → last_given pass generation file (acts ++ run)
        ≡ (if b then last_given pass generation file (acts ++ run) else last_given pass generation file (acts ++ run))
    same-if true = refl
    same-if false = refl
gives-brings p h (one ∷ lists) acts pass generation file run =
    gives-brings p h lists (Gives p h one.0 one.1 ∷ acts) pass generation file run
    ∙ one-brings (same_pass pass p) (same_file file one.0) (nat_eq generation h)
    one.1 (last_given pass generation file (acts ++ run)) (list_among file lists)

-- what an end of a job brings
abbrev EndGoes : Option WorkEnd → TurnState State → TurnState State → Type 0
EndGoes end w v = GoesBy (λ pass generation file before. brought_by end pass generation file before) left_out w v

work-goes : (end : WorkEnd) (w : TurnState State) → EndFits w.state.board.generation w.state.files.table (Some end)
    → IfOk (work_taken end w) (EndGoes (Some end) w)
unfolding work_taken
work-goes (Fetched found) w fits = fetch-taken-goes found w
work-goes (Built made) w fits = build-taken-goes made w
work-goes (Checked roots) w fits = workspaces-go (check_kept roots) w
work-goes (Loaded told) w fits = load-goes told w
work-goes (Diagnosed generation pass lists) w fits = record {
  acts = gives pass generation lists [];
  board = refl;
  fits = gives-fit w.state.files.table w.state.board.generation generation pass lists [] fits.0 fits.1 tt;
  given = λ p g file run. gives-brings pass generation lists [] p g file run;
  told = refl;
  grows = λ file path is. is;
  jobs = refl;
}
work-goes (Tested files tests) w fits = notified-goes (tests_told w.state.files.table files tests) w refl

end-goes : (end : Option WorkEnd) (w : TurnState State) → EndFits w.state.board.generation w.state.files.table end
    → IfOk (end_taken end w) (EndGoes end w)
unfolding end_taken
end-goes None w fits = itself w
end-goes (Some end) w fits = work-goes end w fits

-- and then it is told how far the work is
work-followed-goes : (end : Option WorkEnd) (told : List Telling) (w : TurnState State)
    → EndFits w.state.board.generation w.state.files.table end → IfOk (work_followed end told w) (EndGoes end w)
unfolding work_followed
work-followed-goes end told w fits =
    let brings : Bringing = λ pass generation file before. brought_by end pass generation file before in
    IfOk-and_then (end_taken end w) (tellings_told told) (EndGoes end w) (EndGoes end w) (end-goes end w fits)
    (λ v p. IfOk-weaker (tellings_told told v) (Goes v) (EndGoes end w) (told-go told v)
    (λ u q. goes-by brings brings_none left_out left_out w v u p q))

-- at the desk alone
record StaysBut (left : Jobs → Jobs) (w v : TurnState State) : Type 0 where
  goes : GoesBy brings_none left w v
  board : v.state.board ≡ w.state.board
  files : v.state.files ≡ w.state.files

message-stays : (meaning : Meaning) (message : TaskMsg) (w : TurnState State)
    → IfOk (at_desk (taken_at_desk meaning (scene_of w.state) message) w) (StaysBut (jobs_after message) w)
message-stays meaning message w =
    let desk : TurnState Desk = record { state = w.state.desk; out = w.out } in
    IfOk-within desk_in with_desk (taken_at_desk meaning (scene_of w.state) message) w (StaysBut (jobs_after message) w)
    (IfOk-weaker (taken_at_desk meaning (scene_of w.state) message desk) (EndStep message desk) _ (taken-step meaning (scene_of w.state) message desk)
    (λ v d. record {
      goes = record {
        acts = [];
        board = refl;
        fits = tt;
        given = λ pass generation file run. refl;
        told = d.1;
        grows = λ file path is. is;
        jobs = d.0;
      };
      board = refl;
      files = refl;
    }))

-- what a message brings
abbrev MessageGoes : TaskMsg → TurnState State → TurnState State → Type 0
MessageGoes message w v =
    GoesBy (λ pass generation file before. brought_by (work_ended message w.state.desk.jobs) pass generation file before) (jobs_after message) w v

message-goes : (meaning : Meaning) (message : TaskMsg) (w : TurnState State) → JobsFit w.state.board.generation w.state.files.table w.state.desk.jobs
    → IfOk (message_taken meaning message w) (MessageGoes message w)
unfolding message_taken
message-goes meaning message w fit =
    let end = work_ended message w.state.desk.jobs in
    let told : List Telling = job_told message.body (fitting_job message w.state.desk.jobs) in
    IfOk-and_then (at_desk (taken_at_desk meaning (scene_of w.state) message) w) (work_followed end told) (StaysBut (jobs_after message) w)
    (MessageGoes message w)
    (message-stays meaning message w)
    (λ v s. IfOk-weaker (work_followed end told v) (EndGoes end v) (MessageGoes message w)
    (work-followed-goes end told v
    (subst (λ (f : SessionFiles). EndFits v.state.board.generation f.table end) (sym s.files)
    (subst (λ n. EndFits n w.state.files.table end) (ap (λ (b : Board). b.generation) (sym s.board))
    (ended-fits w.state.board.generation w.state.files.table message w.state.desk.jobs fit))))
    (λ u p. goes-by brings_none (λ pass generation file before. brought_by end pass generation file before) (jobs_after message) left_out w v u s.goes
    p))

-- the jobs that are still out fit
still-fit : (brings : Bringing) (left : Jobs → Jobs) (w v : TurnState State) → GoesBy brings left w v
    → AreAmong (left w.state.desk.jobs) w.state.desk.jobs
    → JobsFit w.state.board.generation w.state.files.table w.state.desk.jobs → JobsFit v.state.board.generation v.state.files.table v.state.desk.jobs
still-fit brings left w v g among h = λ number job generation pass files is kind.
    let fit = h number job generation pass files (among number job (ap (λ (js : Jobs). map.get js number) (sym g.jobs) ∙ is)) kind in
    (subst (λ n. generation ≤ n) (sym (goes-generation brings left w v g)) fit.0, known files fit.1)
  where
    known : (files : List FileId) → AreKnown w.state.files.table files → AreKnown v.state.files.table files
    known [] k = tt
    known (file ∷ files) k = ((k.0.0, g.grows file k.0.0 k.0.1), known files k.1)

-- what a batch brings
abbrev pub BatchGoes : List TaskMsg → TurnState State → TurnState State → Type 0
BatchGoes batch w v =
    GoesBy (λ pass generation file before. brought_past batch w.state.desk.jobs pass generation file before) (after_batch batch) w v

batch-goes : (meaning : Meaning) (batch : List TaskMsg) (w : TurnState State) → JobsFit w.state.board.generation w.state.files.table w.state.desk.jobs
    → IfOk (batched meaning batch w) (BatchGoes batch w)
batch-goes meaning [] w fit = itself w
batch-goes meaning (m ∷ ms) w fit =
    let one : Bringing = λ pass generation file before. brought_by (work_ended m w.state.desk.jobs) pass generation file before in
    IfOk-and_then (message_taken meaning m w) (batched meaning ms) (MessageGoes m w) (BatchGoes (m ∷ ms) w) (message-goes meaning m w fit)
    (λ v p. IfOk-weaker (batched meaning ms v) (BatchGoes ms v) (BatchGoes (m ∷ ms) w)
    (batch-goes meaning ms v (still-fit one (jobs_after m) w v p (after-among m w.state.desk.jobs) fit))
    (λ u q. subst (λ (js : Jobs). GoesBy (λ pass generation file before. brought_past ms js pass generation file (one pass generation file before))
    (after_batch (m ∷ ms)) w u) p.jobs
    (goes-by one (λ pass generation file before. brought_past ms v.state.desk.jobs pass generation file before) (jobs_after m) (after_batch ms) w v u
    p q)))

-- ---- other events

brought-goes : (messages : List LoaderMsg) (w : TurnState State) → IfOk (loader_brought messages w) (Goes w)
brought-goes messages w =
    goes-then (at_files (loaded messages) w) _ w (files-goes _ w (loaded-step messages (record { state = w.state.files; out = w.out })))
    (λ v. workspaces-go (renewed_if (bring_files messages) v.state.desk.turns) v)

loader-goes : (messages : List LoaderMsg) (w : TurnState State) → IfOk (loader_taken messages w) (Goes w)
loader-goes messages w =
    let told : List Telling = scans_told w.state.client.settings.root_path messages in
    goes-then (loader_brought messages w) (tellings_told told) w (brought-goes messages w) (told-go told)

resumed-goes : (task : DeferredTask) (w : TurnState State) → IfOk (resumed task w) (Goes w)
unfolding resumed
resumed-goes (CheckIfIndexed path) w = itself w
resumed-goes (CheckProcMacroSources files) w =
    desk-goes _ w (spawned-step (snapshot_of w.state) Worker (check_kind (snapshot_of w.state) files) (record { state = w.state.desk; out = w.out }))

all-resumed-go : (tasks : List DeferredTask) (w : TurnState State) → IfOk (all_resumed tasks w) (Goes w)
all-resumed-go [] w = itself w
all-resumed-go (task ∷ tasks) w = goes-then (resumed task w) (all_resumed tasks) w (resumed-goes task w) (all-resumed-go tasks)

-- ---- news of checks

by-kept : (file : FileId) (kept : RowState) (e : FileId × FileExcluded) → id_by file kept ≡ Some e → file ≡ e.0
by-kept file NoContents e is = none-some e is
by-kept file (Contents bytes) e is = ap (λ (x : FileId × FileExcluded). x.0) (some-is (file, No) e is)
by-kept file Excluded e is = ap (λ (x : FileId × FileExcluded). x.0) (some-is (file, Yes) e is)

by-row : (o : Option FileRow) (e : FileId × FileExcluded) → id_in o ≡ Some e → option_map (λ (row : FileRow). row.file) o ≡ Some e.0
by-row None e is = none-some e is
by-row (Some row) e is = ap Some (by-kept row.file row.kept e is)

-- a file that has a number has a path
pub known-by : (files : SessionFiles) (path : List ℕ) (e : FileId × FileExcluded) → IsSound files → map.get files.ids path ≡ Some e
    → path_at files.table e.0 ≡ Some path
known-by files path e sound is = sound.numbered.path_of path e.0 (by-row (map.get files.table.rows path) e (sym (sound.numbers path) ∙ is))

outdated-fits : (table : Files) (most id : ℕ) (of_package : Option (Option (List ℕ))) (older_than : Option ℕ)
    → Fits table most (outdated_act id of_package older_than)
outdated-fits table most id None None = tt
outdated-fits table most id (Some of_package) None = tt
outdated-fits table most id None (Some generation) = tt
outdated-fits table most id (Some of_package) (Some generation) = tt

outdated-brings : (id : ℕ) (of_package : Option (Option (List ℕ))) (older_than : Option ℕ) (pass : NativePass) (generation : ℕ) (file : FileId)
    (run : List Act)
    → last_given pass generation file (outdated_act id of_package older_than ∷ run) ≡ last_given pass generation file run
outdated-brings id None None pass generation file run = refl
outdated-brings id (Some of_package) None pass generation file run = refl
outdated-brings id None (Some older) pass generation file run = refl
outdated-brings id (Some of_package) (Some older) pass generation file run = refl

-- the files stay
record Checks (w v : TurnState State) : Type 0 where
  goes : Goes w v
  files : v.state.files ≡ w.state.files

found-checks : (id generation : ℕ) (of_package : Option (List ℕ)) (path : List ℕ) (diagnostic : Diagnostic) (fix : Option Data)
    (o : Option (FileId × FileExcluded)) (w : TurnState State) → map.get w.state.files.ids path ≡ o → IsSound w.state.files
    → Checks w (found_added id generation of_package path diagnostic fix o w)
unfolding found_added logged ordered
found-checks id generation of_package path diagnostic fix None w is sound = record { goes = still w _ refl refl refl refl; files = refl }
found-checks id generation of_package path diagnostic fix (Some (file, Yes)) w is sound = record { goes = itself w; files = refl }
found-checks id generation of_package path diagnostic fix (Some (file, No)) w is sound = record {
  goes = acts-one (Adds id generation of_package (found_in file diagnostic fix)) w (path, known-by w.state.files path (file, No) sound is)
      (λ pass generation file run. refl);
  files = refl;
}

check-checks : (message : FlycheckMsg) (w : TurnState State) → IsSound w.state.files → IfOk (check_told message w) (Checks w)
unfolding check_told
check-checks (checks.AddDiagnostic id generation of_package path diagnostic fix) w sound =
    found-checks id generation of_package path diagnostic fix (map.get w.state.files.ids path) w refl sound
check-checks (checks.ClearDiagnostics id of_package older_than) w sound = record {
  goes = acts-one (outdated_act id of_package older_than) w (outdated-fits w.state.files.table w.state.board.generation id of_package older_than)
      (outdated-brings id of_package older_than);
  files = refl;
}
check-checks (checks.Progress id progress) w sound =
    let told : Announced ChecksKept = progressed w.state.client.settings id progress w.state.activities.checks in
    IfOk-weaker (checks_announced told w) (Announces w) (Checks w) (saying.checks-announced-owe Announces announcing told w)
    (λ v a. record { goes = announces-go w v a; files = ap (λ (s : State). s.files) a.state })

checks-go : (messages : List FlycheckMsg) (w : TurnState State) → IsSound w.state.files → IfOk (checks_told messages w) (Goes w)
unfolding checks_told
checks-go [] w sound = itself w
checks-go (message ∷ messages) w sound =
    IfOk-and_then (check_told message w) (checks_told messages) (Checks w) (Goes w) (check-checks message w sound)
    (λ v c. behind-goes w v (checks_told messages v) c.goes (checks-go messages v (subst IsSound (sym c.files) sound)))

checks-heard-go : (messages : List FlycheckMsg) (w : TurnState State) → IsSound w.state.files → IfOk (checks_heard messages w) (Goes w)
unfolding checks_heard
checks-heard-go messages w sound = goes-then (checks_told messages w) _ w (checks-go messages w sound) (asked_if-goes _ DiagnosticRefresh)

news-goes : (news : NewsData) (w : TurnState State) → IsSound w.state.files → IfOk (news_taken news w) (Goes w)
unfolding news_taken
news-goes (told_news.Flycheck messages) w sound = checks-heard-go messages w sound
news-goes (told_news.TestResult messages) w sound = announced-goes (tests_heard messages w) w (saying.tests-heard-owe Announces announcing messages w)
news-goes (told_news.DiscoverProject messages) w sound = itself w

-- ---- an event

-- what an input brings
abbrev pub InputGoes : Input → TurnState State → TurnState State → Type 0
InputGoes input w v = BatchGoes (batch_of input) w v

happened-goes : (meaning : Meaning) (event : Event) (w : TurnState State) → IsSound w.state.files
    → JobsFit w.state.board.generation w.state.files.table w.state.desk.jobs → IfOk (happened meaning event w) (InputGoes (Next event) w)
unfolding happened received
happened-goes meaning (Lsp (RequestMessage r)) w sound fit = requested-goes meaning r w
happened-goes meaning (Lsp (NotificationMessage n)) w sound fit = heard-goes (heard_of n) n.method w
happened-goes meaning (Lsp (ResponseMessage r)) w sound fit = answer-goes r w
happened-goes meaning (Task batch) w sound fit = batch-goes meaning batch w fit
happened-goes meaning (Vfs messages) w sound fit = loader-goes messages w
happened-goes meaning (Deferred tasks) w sound fit = all-resumed-go tasks w
happened-goes meaning (News news) w sound fit = news-goes news w sound
happened-goes meaning (Timer ticket) w sound fit = workspaces-go (with_fetches (fire ticket)) w

counted-stays : (w : TurnState State) → IfOk (turn_counted w) (StaysBut left_out w)
unfolding turn_counted
counted-stays w =
    let desk : TurnState Desk = record { state = w.state.desk; out = w.out } in
    IfOk-within desk_in with_desk counted_at_desk w (StaysBut left_out w)
    (IfOk-weaker (counted_at_desk desk) (DeskStep desk) _ (counted-step desk)
    (λ v d. record {
      goes = record {
        acts = [];
        board = refl;
        fits = tt;
        given = λ pass generation file run. refl;
        told = d.1;
        grows = λ file path is. is;
        jobs = d.0;
      };
      board = refl;
      files = refl;
    }))

pub event-goes : (meaning : Meaning) (event : Event) (w : TurnState State) → IsSound w.state.files
    → JobsFit w.state.board.generation w.state.files.table w.state.desk.jobs → IfOk (event_taken meaning event w) (InputGoes (Next event) w)
unfolding event_taken
event-goes meaning event w sound fit =
    let batch : List TaskMsg = batch_of (Next event) in
    IfOk-and_then (turn_counted w) (happened meaning event) (StaysBut left_out w) (InputGoes (Next event) w) (counted-stays w)
    (λ v s. IfOk-weaker (happened meaning event v) (InputGoes (Next event) v) (InputGoes (Next event) w)
    (happened-goes meaning event v (subst IsSound (sym s.files) sound) (still-fit brings_none left_out w v s.goes (λ number job is. is) fit))
    (λ u p. subst (λ (js : Jobs). GoesBy (λ pass generation file before. brought_past batch js pass generation file before) (after_batch batch) w u)
    s.goes.jobs
    (goes-by brings_none (λ pass generation file before. brought_past batch v.state.desk.jobs pass generation file before)
    left_out (after_batch batch) w v u s.goes p)))
