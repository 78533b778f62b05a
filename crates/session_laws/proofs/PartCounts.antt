-- The parts of a turn behind its event give no more numbers than they may need.
use Rattle.std.proofs.Common.{◌≡◌, ℕ, ◌+◌, ◌-◌, ◌^◌, ◌≤◌, List, [], ◌∷◌, ◌++◌, length, Bool, true, false, refl, sym, ap, ◌∙◌, subst, arith}
use Rattle.std.proofs.lemmas.Result.{IfOk-at_ok}
use Rattle.std.specs.FinMap as map
use Rattle.std.specs.Prelude.{◌==◌, Err, if◌then◌else◌, map as each, None, Ok, Option, Result, Some}
use Rattle.docs_vfs.specs.declared.file_kinds.ChangedFile.{ChangedFile}
use Rattle.docs_vfs.specs.declared.source_roots.Root.{Root}
use Rattle.lsp_frame.specs.Outgoing.{Outgoing}
use Rattle.project_model.specs.declared.crates.CrateData.{CrateData}
use Rattle.layered_settings.specs.declared.change.ConfigChange.{ConfigChange}
use Rattle.ra_config.specs.declared.capabilities.Capabilities.{Capabilities}
use Rattle.session_port.specs.declared.news.TestMsg.{TestMsg}
use Rattle.session_port.specs.TurnState.{TurnState, and_then, logged, ordered, written}
use Rattle.session_port.specs.declared.command.DeferredTask.{DeferredTask}
use Rattle.session_port.specs.declared.command.DeferredTask.TheVariants.{CheckIfIndexed, CheckProcMacroSources}
use Rattle.method_table.specs.declared.class.PoolClass.TheVariants.{Latency, Worker}
use Rattle.docs_vfs.specs.Files.{path_at}
use Rattle.docs_vfs.specs.declared.file_kinds.FileExcluded.{FileExcluded}
use Rattle.docs_vfs.specs.declared.file_kinds.FileExcluded.TheVariants.{No, Yes}
use Rattle.docs_vfs.specs.declared.file_kinds.FileId.{FileId}
use Rattle.lsp_types.specs.declared.diagnostic.Diagnostic.{Diagnostic}
use Rattle.op_board.specs.Acts.{step as after_act}
use Rattle.op_board.specs.Acts.Act.{Takes}
use Rattle.op_board.specs.Marked.{taken}
use Rattle.serde_json.specs.Data.{Data}
use Rattle.session_port.specs.declared.job.JobKind.{JobKind}
use Rattle.session_port.specs.declared.news.FlycheckMsg.{FlycheckMsg}
use Rattle.session_port.specs.declared.news.FlycheckMsg.TheVariants as checks
use Rattle.session_files.specs.Folds.{changed_files}
use Rattle.session_port.specs.declared.fault.Counter.{Counter}
use Rattle.notify.specs.declared.outgo.MessageKind.{MessageKind}
use Rattle.notify.specs.declared.outgo.Outgo.{Outgo}
use Rattle.notify.specs.declared.outgo.Outgo.TheVariants.{CodeLensRefresh, DiagnosticRefresh, InlayHintRefresh, SemanticTokensRefresh}
use Rattle.notify.specs.declared.outgo.Outgo.TheVariants.{ShowMessage, ShowMessageRequest}
use Rattle.client.specs.Client.{Client}
use Rattle.client.specs.Steps.{notification_of}
use Rattle.client.specs.declared.handler.ReqHandler.{ReqHandler}
use Rattle.client.specs.declared.handler.ReqHandler.TheVariants.{Ignore, OpenLogs}
use Rattle.session_laws.proofs.Announcing.{Announces, announcing, checks-done-owe, refreshes-owe}
use Rattle.session_laws.proofs.OwnJobs.{batch_due, due-same}
use Rattle.session_laws.proofs.TellingCounts.{checks-done-does, graph-few}
use Rattle.session_laws.proofs.TellingCounts.{progressed-does, renewed_if-does, test-does}
use Rattle.session_laws.proofs.TellingCounts.{told-at-most}
use Rattle.session_laws.proofs.OwnJobs.{load_behind, load-due-same}
use Rattle.session_model.specs.Diagnosing.{batch_counted, batch_kinds, deleted_cleared, is_batch_due, outdated_act}
use Rattle.session_model.specs.OwnJobs.{awaited_job, batch_jobs, batch_jobs_if}
use Rattle.session_model.specs.OwnJobs.{OwnJob, build_job, checks_among_tasks, fetch_job, load_job, own_job}
use Rattle.session_model.specs.OwnJobs.{run_jobs}
use Rattle.desk.specs.Steps.{handed_over}
use Rattle.session_files.specs.SessionFiles.{SessionFiles}
use Rattle.session_files.specs.Steps.{crates_put, processed}
use Rattle.workspaces.specs.Fetches.{fetch_to_start, start_fetch}
use Rattle.workspaces.specs.Workspaces.{Workspaces}
use Rattle.workspaces.specs.declared.follows.Follows.{Follows}
use Rattle.workspaces.specs.declared.follows.Follows.TheVariants as follows
use Rattle.workspaces.specs.declared.requests.FetchRequest.{FetchRequest}
use Rattle.session_model.specs.Building.{build_due, with_due_build}
use Rattle.session_model.specs.Checking.{check_kind}
use Rattle.session_model.specs.Crates.{builds_crates, crate_data}
use Rattle.session_model.specs.Fetching.{with_fetches}
use Rattle.session_model.specs.Inputs.{news_count}
use Rattle.session_model.specs.Loading.{MacroPaths, load_due, with_due_load}
use Rattle.session_model.specs.Machine.{all_resumed, request_taken, asked_if, at_desk, at_files, at_workspaces}
use Rattle.session_model.specs.Machine.{build_handed_over, build_started}
use Rattle.session_model.specs.Machine.{crates_arrived, crates_built, effects_done}
use Rattle.session_model.specs.Machine.{fetch_waits, settings_filed, sources_deferred, fetch_handed_over, fetch_started}
use Rattle.session_model.specs.Machine.{files_done, files_followed, files_in, files_processed}
use Rattle.session_model.specs.Machine.{checks_done, checks_heard, checks_renewed_if, crates_settled_if}
use Rattle.session_model.specs.Machine.{tellings_told}
use Rattle.session_model.specs.Machine.{tests_announced, tests_heard}
use Rattle.activities.specs.TestRun.{test_told}
use Rattle.activities.specs.Work.{graph_told}
use Rattle.session_model.specs.Machine.{switch_followed, load_handed_over, load_started}
use Rattle.session_model.specs.Machine.{loader_set, quiet_done, client_refreshed}
use Rattle.session_model.specs.Machine.{all_asked, all_published, at_board, batch_asked, batch_done, came_or_went, check_told, checks_told, files_published}
use Rattle.session_model.specs.Machine.{found_added, marked_published, news_taken, published_at, refreshes_done}
use Rattle.session_model.specs.Machine.{resumed}
use Rattle.session_model.specs.Machine.{roots_renewed, runs_started, saves_registered}
use Rattle.session_model.specs.Machine.{status_changed, status_done, status_kept, status_told, switch_done, switch_taken}
use Rattle.session_model.specs.Machine.{text_shown, warned}
use Rattle.session_model.specs.Machine.{watchers_registered, with_client, with_files, with_sources, with_status, with_workspaces}
use Rattle.session_model.specs.RunEnds.{AreTooMany, Numbers}
use Rattle.session_model.specs.Sources.{change_for, client_with, further_files, parents_told}
use Rattle.session_model.specs.State.{State, snapshot_of}
use Rattle.session_model.specs.Status.{is_quiescent, opens_logs, shown_of, status_message, status_now, takes_status}
use Rattle.session_model.specs.Switching.{switch_made}
use Rattle.session_model.specs.Timing.{effects_for, fetch_planned}
use Rattle.session_model.specs.declared.facts.FactsBefore.{FactsBefore}
use Rattle.session_model.specs.declared.input.News.{News as NewsData}
use Rattle.session_model.specs.declared.input.News.TheVariants as told_news
use Rattle.session_model.specs.declared.input.Input.{Input}
use Rattle.session_laws.proofs.Counting.{AtMost, Counts, ahead, at-most, become-counts, both, counts-behind, counts-if, counts-more, counts-then}
use Rattle.session_laws.proofs.Counting.{counts-within, crates-count, files, files_ahead, given, given-workspaces}
use Rattle.session_laws.proofs.Counting.{gives-same, gives-versions, held, job-counts, jobs, none}
use Rattle.session_laws.proofs.Counting.{processing-counts, request-counts, requests, revisions, state_ahead, state_at, turns}
use Rattle.session_laws.proofs.Following.{deferred-same, further-same}
use Rattle.session_laws.proofs.Running.{versions_of, planned-runs}
use Rattle.session_laws.proofs.Made.{Outcome, next-most, switch-makes}
use Rattle.session_laws.proofs.Switching.{loader-same, warned-same}

-- from here on a step gives no more numbers than these
abbrev pub Does : Numbers → TurnState State → Result (TurnState State) Counter → Type 0
Does needs w r = Counts state_ahead needs (held w.state) r

pub does-same : (needs : Numbers) (w v : TurnState State) → held v.state ≡ held w.state → Does needs w (Ok v)
does-same needs w v same = gives-same needs (held w.state) (held v.state) same

pub does-then : (a b : Numbers) (w : TurnState State) (r : Result (TurnState State) Counter) (f : TurnState State → Result (TurnState State) Counter) → Does a w r
    → ((v : TurnState State) → Does b v (f v))
    → Does (both a b) w (and_then r f)
does-then a b w r f p q = counts-then state_ahead state_ahead a b (held w.state) r f p (λ v is. q v)

-- and then nothing changes that is counted
pub then-same : (needs : Numbers) (w : TurnState State) (r : Result (TurnState State) Counter) (f : TurnState State → TurnState State)
    → ((v : TurnState State) → held (f v).state ≡ held v.state) → Does needs w r
    → Does needs w (and_then r (λ v. Ok (f v)))
then-same needs w (Ok v) f same h = subst (λ (n : Numbers). AtMost n (both (held w.state) needs)) (sym (same v)) h
then-same needs w (Err counter) f same h = h

pub from-same : (needs : Numbers) (w v : TurnState State) (r : Result (TurnState State) Counter) → held v.state ≡ held w.state → Does needs v r → Does needs w r
from-same needs w v r same h = subst (λ (n : Numbers). Counts state_ahead needs n r) same h

none-at-most : (needs : Numbers) → AtMost none needs
none-at-most needs = at-most _ _ (omega arith) (omega arith) (omega arith) (omega arith) (omega arith) (omega arith) (omega arith)

-- a step that gives none gives no more than these
pub none-does : (needs : Numbers) (w : TurnState State) (r : Result (TurnState State) Counter) → Does none w r → Does needs w r
none-does needs w r h = counts-more state_ahead none needs (held w.state) r (none-at-most needs) h

none-and : (needs : Numbers) → AtMost (both none needs) needs
none-and needs = at-most _ _ (omega arith) (omega arith) (omega arith) (omega arith) (omega arith) (omega arith) (omega arith)

-- a step that gives none, and then one that gives no more than these
pub none-then : (needs : Numbers) (w : TurnState State) (r : Result (TurnState State) Counter) (f : TurnState State → Result (TurnState State) Counter)
    → Does none w r → ((v : TurnState State) → r ≡ Ok v → Does needs v (f v)) → Does needs w (and_then r f)
none-then needs w r f first next =
    counts-more state_ahead (both none needs) needs (held w.state) (and_then r f) (none-and needs)
    (counts-then state_ahead state_ahead none needs (held w.state) r f first next)

pub held-workspaces : (s : State) (workspaces : Workspaces) → versions_of workspaces ≡ versions_of s.workspaces → held (with_workspaces workspaces s) ≡ held s
held-workspaces s workspaces same = given-workspaces (ahead s) workspaces same

pub same-state : (s t : State) → t ≡ s → held t ≡ held s
same-state s t same = ap held same

-- ---- requests of the session's own

asked_if-does : (wanted : Bool) (message : Outgo) (w : TurnState State) → Does (requests 1) w (asked_if wanted message w)
unfolding asked_if
asked_if-does true message w = request-counts message Ignore w
asked_if-does false message w = does-same (requests 1) w w refl

refreshed-does : (can : Capabilities) (w : TurnState State) → Does (requests 4) w (client_refreshed can w)
unfolding client_refreshed
refreshed-does can w =
    does-then (requests 1) (requests 3) w (asked_if can.semantic_tokens_refresh SemanticTokensRefresh w) _
    (asked_if-does can.semantic_tokens_refresh SemanticTokensRefresh w)
    (λ v. does-then (requests 1) (requests 2) v (asked_if can.code_lens_refresh CodeLensRefresh v) _ (asked_if-does can.code_lens_refresh CodeLensRefresh v)
    (λ u. does-then (requests 1) (requests 1) u (asked_if can.inlay_hints_refresh InlayHintRefresh u) (asked_if can.diagnostics_refresh DiagnosticRefresh)
    (asked_if-does can.inlay_hints_refresh InlayHintRefresh u) (asked_if-does can.diagnostics_refresh DiagnosticRefresh)))

refreshes-do : (facts : FactsBefore) (w : TurnState State) → Does (requests 4) w (refreshes_done facts w)
unfolding refreshes_done
refreshes-do facts w =
    counts-if state_ahead (requests 4) (held w.state) _ (client_refreshed w.state.client.settings.capabilities w) (Ok w)
    (refreshed-does w.state.client.settings.capabilities w) (does-same (requests 4) w w refl)

pub registered-does : (w : TurnState State) → Does (requests 1) w (saves_registered w)
unfolding saves_registered
registered-does w = asked_if-does _ _ w

watched-does : (w : TurnState State) → Does (requests 1) w (watchers_registered w)
unfolding watchers_registered
watched-does w = asked_if-does _ _ w

shown-does : (button : Bool) (text : Option (List ℕ × MessageKind)) (w : TurnState State) → Does (requests 1) w (text_shown button text w)
unfolding text_shown written
shown-does true None w = does-same (requests 1) w w refl
shown-does false None w = does-same (requests 1) w w refl
shown-does true (Some text) w = request-counts (ShowMessageRequest text.0 text.1) OpenLogs w
shown-does false (Some text) w = does-same (requests 1) w (written (notification_of (ShowMessage text.0 text.1)) w) refl

pub status-does : (w : TurnState State) → Does (requests 1) w (status_done w)
unfolding status_done status_kept status_changed status_told written
status-does w =
    let now = status_now w.state.client w.state.files w.state.workspaces w.state.activities.checks in
    then-same (requests 1) w (status_changed now w) (λ v. record v { state = with_status now v.state }) (λ v. refl)
    (counts-if state_ahead (requests 1) (held w.state) _ (Ok w) (status_told now w) (does-same (requests 1) w w refl)
    (counts-if state_ahead (requests 1) (held w.state) (takes_status w.state.client.settings) (Ok (written (notification_of (status_message now)) w)) _
    (does-same (requests 1) w (written (notification_of (status_message now)) w) refl)
    (shown-does (opens_logs w.state.client.settings w.state.workspaces) (shown_of now) w)))

-- ---- the world

-- the same with the revisions that were given
abbrev pub Gives : Numbers → TurnState State → Result (TurnState State) Counter → Type 0
Gives needs w r = Counts state_at needs (given w.state) r

pub files-do : (needs : Numbers) (w : TurnState State) (work : TurnState SessionFiles → Result (TurnState SessionFiles) Counter)
    → Counts (λ (v : TurnState SessionFiles). with_files v.state w.state) needs (given w.state) (work (record { state = w.state.files; out = w.out }))
    → Gives needs w (at_files work w)
files-do needs w work h = counts-within state_at needs (given w.state) files_in with_files work w h

world-do : (needs : Numbers) (w : TurnState State) (work : TurnState SessionFiles → Result (TurnState SessionFiles) Counter)
    → Counts (λ (v : TurnState SessionFiles). files_ahead w.state v.state) needs (held w.state) (work (record { state = w.state.files; out = w.out }))
    → Does needs w (at_files work w)
world-do needs w work h = counts-within state_ahead needs (held w.state) files_in with_files work w h

crates-do : (roots : List Root) (crates : CrateData) (w : TurnState State) → Does (revisions 1) w (at_files (crates_put roots crates) w)
unfolding crates_put
crates-do roots crates w = world-do (revisions 1) w (crates_put roots crates)
    (become-counts (files_ahead w.state) (revisions 1) (held w.state) _ _ (crates-count roots crates w.state))

pub arrived-does : (crates : Option CrateData) (w : TurnState State) → Does (revisions 1) w (crates_arrived crates w)
unfolding crates_arrived
arrived-does None w = does-same (revisions 1) w w refl
arrived-does (Some crates) w = crates-do w.state.sources.roots crates w

built-does : (built : Bool) (w : TurnState State) → Does (revisions 1) w (crates_built built w)
unfolding crates_built
built-does false w = does-same (revisions 1) w w refl
built-does true w = crates-do w.state.sources.roots (crate_data w.state.client.settings w.state.files.ids w.state.workspaces.present) w

-- what follows from files that changed isn't counted
change-asks : (change : Option ConfigChange) (client : Client) → (client_with change client).asked ≡ client.asked
change-asks None client = refl
change-asks (Some change) client = refl

followed-same : (changes : List ChangedFile) (w : TurnState State) → held (files_followed changes w).state ≡ held w.state
unfolding files_followed effects_done settings_filed fetch_waits
followed-same [] w = refl
followed-same (change ∷ changes) w =
    let effects = effects_for w.state.client.settings (change ∷ changes) w.state.workspaces in
    let filed = settings_filed effects.settings (at_board (deleted_cleared (change ∷ changes)) w) in
    let settings = change_for effects.settings w.state.files.host.world.roots w.state.sources w.state.workspaces.present in
    let cleared : TurnState State = at_board (deleted_cleared (change ∷ changes)) w in
    let put : TurnState State =
    record cleared { state = with_sources (parents_told w.state.sources) (with_client (client_with settings w.state.client) cleared.state) } in
    let deferred = sources_deferred effects.macro_sources filed in
    held-workspaces deferred.state (fetch_planned deferred.state.desk.turns effects.fetch deferred.state.workspaces)
    (planned-runs deferred.state.desk.turns effects.fetch deferred.state.workspaces).versions
    ∙ same-state put.state deferred.state (deferred-same effects.macro_sources filed ∙ further-same (further_files settings) put)
    ∙ ap (λ (request_taken : Outgoing ReqHandler). record (held w.state) { requests = request_taken.given }) (change-asks settings w.state.client)

processed-does : (w : TurnState State) → Does none w (files_processed w)
unfolding files_processed processed
processed-does w =
    then-same none w (at_files (processed w.state.sources.roots) w) (files_followed (changed_files w.state.files)) (followed-same (changed_files w.state.files))
    (world-do none w (processed w.state.sources.roots)
    (become-counts (files_ahead w.state) none (held w.state) _ _ (processing-counts w.state.sources.roots w.state)))

pub settled_if-does : (b : Bool) (w : TurnState State) → Does none w (crates_settled_if b w)
unfolding crates_settled_if
settled_if-does true w = does-then none none w (files_processed w) (checks_renewed_if true) (processed-does w) (renewed_if-does true)
settled_if-does false w = does-same none w w refl

pub done-does : (w : TurnState State) → Does none w (files_done w)
unfolding files_done
done-does w = counts-if state_ahead none (held w.state) w.state.files.loading (Ok w) (files_processed w) (does-same none w w refl) (processed-does w)

-- ---- a switch

graph-does : (w : TurnState State) → Does (requests 1) w (tellings_told graph_told w)
graph-does w = told-at-most 1 graph_told w graph-few

roots-same : (version : ℕ) (w : TurnState State) → held (roots_renewed (loader_set version w)).state ≡ held w.state
unfolding roots_renewed
roots-same version w = same-state w.state (loader_set version w).state (loader-same version w)

followed-does : (next : Follows) (w : TurnState State) → Does (requests 2) w (switch_followed next w)
unfolding switch_followed
followed-does follows.Nothing w = does-same (requests 2) w w refl
followed-does follows.CrateData w = told-at-most 2 graph_told w (let few = graph-few in omega (arith, few))
followed-does (follows.Wait msrv) w = does-same (requests 2) w (warned msrv w) (same-state w.state (warned msrv w).state (warned-same msrv w))
followed-does (follows.GoOn msrv version initial) w =
    let v : TurnState State = warned msrv w in
    let next : TurnState State → Result (TurnState State) Counter = λ u. tellings_told graph_told (roots_renewed (loader_set version u)) in
    from-same (requests 2) w v (and_then (watchers_registered v) next) (same-state w.state v.state (warned-same msrv w))
    (does-then (requests 1) (requests 1) v (watchers_registered v) next (watched-does v)
    (λ u. from-same (requests 1) u (roots_renewed (loader_set version u)) (next u) (roots-same version u) (graph-does (roots_renewed (loader_set version u)))))

-- it may ask the client, build crate data, and give a version each of the workspaces and of the loader's settings
abbrev pub for_switch : Numbers
for_switch = record none { requests = 2; revisions = 1; versions = 1; settings = 1 }

switch-cases : (made : Result (Follows × Workspaces) Counter) (w : TurnState State) → Outcome w.state.workspaces made
    → Does for_switch w (switch_taken made w)
unfolding switch_taken
switch-cases (Err counter) w refused = subst (AreTooMany (held w.state) for_switch) (sym refused.0) refused.1
switch-cases (Ok made) w makes =
    let now : TurnState State = at_workspaces (λ before. made.1) w in
    counts-behind state_ahead (record none { versions = 1; settings = 1 }) (record none { requests = 2; revisions = 1 }) (held w.state) (held now.state) _
    (gives-versions (ahead w.state) made.1 makes.version
    (next-most w.state.workspaces.loader_version made.1.loader_version made.0 makes.next))
    (does-then (requests 2) (revisions 1) now (switch_followed made.0 now) (crates_built (builds_crates w.state.client.settings made.0))
    (followed-does made.0 now)
    (built-does (builds_crates w.state.client.settings made.0)))

pub switch-does : (w : TurnState State) → Does for_switch w (switch_done w)
unfolding switch_done
switch-does w = switch-cases (switch_made w.state.client.settings w.state.files w.state.workspaces) w
    (switch-makes w.state.client.settings w.state.files w.state.workspaces)

-- ---- jobs of the session's own

-- the session's own work that starts is that which is due
pub fetch-does : (may : Bool) (w : TurnState State) → Does (jobs (length (fetch_job w.state (fetch_to_start may w.state.workspaces.fetches)))) w (fetch_started may w)
unfolding fetch_started fetch_handed_over
fetch-does may w = by_fetch (fetch_to_start may w.state.workspaces.fetches)
  where
    now : TurnState State
    now = at_workspaces (with_fetches (start_fetch may)) w

    by_fetch : (fetch : Option (List ℕ × FetchRequest)) → Does (jobs (length (fetch_job w.state fetch))) w (fetch_handed_over fetch now)
    by_fetch None = does-same (jobs 0) w now refl
    by_fetch (Some fetch) = job-counts (snapshot_of now.state) Worker _ now

load-does : (s : State) (load : Option MacroPaths) (w : TurnState State) → Does (jobs (length (load_job s load))) w (load_handed_over load w)
unfolding load_handed_over
load-does s None w = does-same (jobs 0) w w refl
load-does s (Some paths) w = job-counts (snapshot_of w.state) Worker _ w

-- no load starts where build data does
run-does : (s : State) (build : Option ℕ) (w : TurnState State) → load_due build w.state.workspaces ≡ load_due build s.workspaces
    → Does (jobs (length (build_job s build ++ load_behind build s))) w (and_then (build_handed_over build w) (load_started build))
unfolding build_handed_over load_started load_handed_over
run-does s None w same =
    subst (λ (o : Option MacroPaths). Does (jobs (length (load_job (with_workspaces (with_due_load None s.workspaces) s) o))) w
    (load_handed_over (load_due None w.state.workspaces) (at_workspaces (with_due_load None) w))) same
    (load-does (with_workspaces (with_due_load None s.workspaces) s) (load_due None w.state.workspaces) (at_workspaces (with_due_load None) w))
run-does s (Some version) w same =
    then-same (jobs 1) w (build_handed_over (Some version) w) (at_workspaces (with_due_load (Some version))) (λ v. refl) (job-counts (snapshot_of w.state) Worker _ w)

pub runs-do : (w : TurnState State) → Does (jobs (length (run_jobs w.state))) w (runs_started w)
unfolding runs_started build_started
runs-do w = run-does w.state (build_due w.state.workspaces) (at_workspaces with_due_build w) (load-due-same (build_due w.state.workspaces) w.state.workspaces)

-- as many as two are
jobs-then : (n m all : ℕ) (w : TurnState State) (r : Result (TurnState State) Counter) (f : TurnState State → Result (TurnState State) Counter) → n + m ≡ all
    → Does (jobs n) w r
    → ((v : TurnState State) → Does (jobs m) v (f v)) → Does (jobs all) w (and_then r f)
jobs-then n m all w r f sum p q = subst (λ k. Does (jobs k) w (and_then r f)) sum (does-then (jobs n) (jobs m) w r f p q)

pub resumed-do : (s : State) (tasks : List DeferredTask) (w : TurnState State) → Does (jobs (length (checks_among_tasks s tasks))) w (all_resumed tasks w)
unfolding resumed
resumed-do s [] w = does-same (jobs 0) w w refl
resumed-do s (CheckIfIndexed path ∷ tasks) w = resumed-do s tasks w
resumed-do s (CheckProcMacroSources files ∷ tasks) w =
    jobs-then 1 (length (checks_among_tasks s tasks)) (length (own_job s (check_kind (snapshot_of s) files) ∷ checks_among_tasks s tasks)) w
    (at_desk (handed_over (snapshot_of w.state) Worker (check_kind (snapshot_of w.state) files)) w) (all_resumed tasks) (omega arith)
    (job-counts (snapshot_of w.state) Worker (check_kind (snapshot_of w.state) files) w) (resumed-do s tasks)

-- ---- batches

asked-do : (s : State) (kinds : List JobKind) (w : TurnState State) → Does (jobs (length (each (awaited_job s) kinds))) w (all_asked kinds w)
unfolding all_asked
asked-do s [] w = does-same (jobs 0) w w refl
asked-do s (kind ∷ kinds) w =
    jobs-then 1 (length (each (awaited_job s) kinds)) (length (awaited_job s kind ∷ each (awaited_job s) kinds)) w
    (at_desk (handed_over (snapshot_of w.state) Latency kind) w) (all_asked kinds) (omega arith)
    (job-counts (snapshot_of w.state) Latency kind w) (asked-do s kinds)

batch-asked-does : (w : TurnState State) → Does (jobs (length (batch_jobs w.state))) w (batch_asked w)
unfolding batch_asked
batch-asked-does w =
    let v : TurnState State = at_board (batch_counted w.state.client.settings) w in
    from-same (jobs (length (batch_jobs w.state))) w v (all_asked (batch_kinds w.state) v) refl (asked-do w.state (batch_kinds w.state) v)

batch-cases : (b : Bool) (w : TurnState State) → Does (jobs (length (batch_jobs_if b w.state))) w (if b then batch_asked w else Ok w)
batch-cases true w = batch-asked-does w
batch-cases false w = does-same (jobs 0) w w refl

batch-done-does : (came : Bool) (facts : FactsBefore) (w : TurnState State) → Does (jobs (length (batch_due came facts w.state))) w (batch_done came facts w)
unfolding batch_done
batch-done-does came facts w = batch-cases (is_batch_due facts.quiescent (is_quiescent w.state.files w.state.workspaces) facts.processed came) w

-- the client may be asked anew for four things, and a batch hands over its jobs
abbrev pub for_quiet : ℕ → Numbers
for_quiet n = both (requests 4) (jobs n)

pub quiet-does : (input : Input) (facts : FactsBefore) (w : TurnState State)
    → Does (for_quiet (length (batch_due (came_or_went input) facts w.state))) w (quiet_done input facts w)
unfolding quiet_done
quiet-does input facts w =
    let came : Bool = came_or_went input in
    let few : ℕ = length (batch_due came facts w.state) in
    none-then (for_quiet few) w (checks_done facts w)
    (λ v. and_then (refreshes_done facts v) (batch_done came facts)) (checks-done-does facts w)
    (λ v is. counts-then state_ahead state_ahead (requests 4) (jobs few) (held v.state) (refreshes_done facts v) (batch_done came facts) (refreshes-do facts v)
    (λ u next. let a : Announces w u = announcing.on w v u
    (IfOk-at_ok (Announces w) is (checks-done-owe Announces announcing facts w))
    (IfOk-at_ok (Announces v) next (refreshes-owe Announces announcing facts v)) in
    subst (λ (own : List OwnJob). Does (jobs (length own)) u (batch_done came facts u)) (due-same came facts w u a) (batch-done-does came facts u)))

-- what is published, and what checks tell, is not counted
published-same : (path : Option (List ℕ)) (file : FileId) (w : TurnState State) → held (published_at path file w).state ≡ held w.state
unfolding published_at written
published-same None file w = refl
published-same (Some path) file w = refl

all-published-same : (files : List FileId) (w : TurnState State) → held (all_published files w).state ≡ held w.state
all-published-same [] w = refl
all-published-same (file ∷ files) w =
    let v : TurnState State = published_at (path_at w.state.files.table file) file w in
    all-published-same files v ∙ published-same (path_at w.state.files.table file) file w

files-published-same : (files : Option (List FileId)) (w : TurnState State) → held (files_published files w).state ≡ held w.state
files-published-same None w = refl
files-published-same (Some files) w = all-published-same files w

pub marked-same : (w : TurnState State) → held (marked_published w).state ≡ held w.state
unfolding marked_published
marked-same w = files-published-same (taken w.state.board.marked) (at_board (after_act Takes) w)

found-same : (id generation : ℕ) (of_package : Option (List ℕ)) (path : List ℕ) (diagnostic : Diagnostic) (fix : Option Data)
    (file : Option (FileId × FileExcluded)) (w : TurnState State) → held (found_added id generation of_package path diagnostic fix file w).state ≡ held w.state
unfolding found_added logged ordered
found-same id generation of_package path diagnostic fix None w = refl
found-same id generation of_package path diagnostic fix (Some (file, Yes)) w = refl
found-same id generation of_package path diagnostic fix (Some (file, No)) w = refl

-- what checks and a run of tests tell takes a request for each message, and one behind a check that has ended
check-does : (message : FlycheckMsg) (w : TurnState State) → Does (requests 1) w (check_told message w)
unfolding check_told
check-does (checks.AddDiagnostic id generation of_package path diagnostic fix) w =
    does-same (requests 1) w (found_added id generation of_package path diagnostic fix (map.get w.state.files.ids path) w)
    (found-same id generation of_package path diagnostic fix (map.get w.state.files.ids path) w)
check-does (checks.ClearDiagnostics id of_package older_than) w =
    does-same (requests 1) w (at_board (after_act (outdated_act id of_package older_than)) w) refl
check-does (checks.Progress id progress) w = progressed-does w.state.client.settings id progress w

checks-do : (messages : List FlycheckMsg) (w : TurnState State) → Does (requests (length messages)) w (checks_told messages w)
unfolding checks_told
checks-do [] w = does-same (requests 0) w w refl
checks-do (message ∷ later) w =
    counts-more state_ahead (requests (1 + length later)) (requests (length (message ∷ later))) (held w.state) (checks_told (message ∷ later) w)
    (at-most _ _ (omega arith) (omega arith) (omega arith) (omega arith) (omega arith) (omega arith) (omega arith))
    (does-then (requests 1) (requests (length later)) w (check_told message w) (checks_told later) (check-does message w) (checks-do later))

tests-do : (messages : List TestMsg) (w : TurnState State) → Does none w (tests_heard messages w)
unfolding tests_heard
tests-do [] w = does-same none w w refl
tests-do (message ∷ later) w =
    does-then none none w (tests_announced (test_told message w.state.activities.tests) w) (tests_heard later) (test-does message w) (tests-do later)

pub news-does : (news : NewsData) (w : TurnState State) → Does (requests (news_count news + 1)) w (news_taken news w)
unfolding news_taken checks_heard
news-does (told_news.Flycheck messages) w =
    does-then (requests (length messages)) (requests 1) w (checks_told messages w) _ (checks-do messages w) (λ v. asked_if-does _ DiagnosticRefresh v)
news-does (told_news.TestResult messages) w = none-does (requests 1) w (tests_heard messages w) (tests-do messages w)
news-does (told_news.DiscoverProject messages) w = does-same (requests 1) w w refl
