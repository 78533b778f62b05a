-- One walk through the steps of a turn that log, tell or ask something, for any relation between what was before a step and what is behind it.
use Rattle.std.proofs.Common.{ℕ, List, [], ◌∷◌, Bool, true, false, refl}
use Rattle.activities.specs.Announced.{Announced}
use Rattle.activities.specs.Checks.{Checks, progressed}
use Rattle.activities.specs.TestRun.{Tests}
use Rattle.activities.specs.Work.{graph_told}
use Rattle.activities.specs.declared.activities.Activities.{Activities}
use Rattle.activities.specs.declared.telling.Telling.{Telling}
use Rattle.std.specs.Prelude.{Option, None, Some, is_some, Result, Ok, Err, IfOk, if◌then◌else◌}
use Rattle.std.specs.FinMap as map
use Rattle.plain.specs.Texts.{text_cmp}
use Rattle.docs_vfs.specs.FileUrls.{path_of}
use Rattle.docs_vfs.specs.Files.{path_at}
use Rattle.docs_vfs.specs.declared.file_kinds.ChangedFile.{ChangedFile}
use Rattle.docs_vfs.specs.declared.file_kinds.FileExcluded.{FileExcluded}
use Rattle.docs_vfs.specs.declared.file_kinds.FileExcluded.TheVariants.{No, Yes}
use Rattle.docs_vfs.specs.declared.file_kinds.FileId.{FileId}
use Rattle.docs_vfs.specs.declared.file_url.UrlFault.{UrlFault}
use Rattle.lsp_types.specs.declared.diagnostic.Diagnostic.{Diagnostic}
use Rattle.serde_json.specs.Data.{Data}
use Rattle.session_port.specs.declared.command.Command.TheVariants.{Invalidate}
use Rattle.session_port.specs.declared.command.DeferredTask.TheVariants.{CheckProcMacroSources}
use Rattle.session_port.specs.declared.command.LogCode.{LogCode}
use Rattle.session_port.specs.declared.command.LogCode.TheVariants.{BadPath, CheckUnknownFile, SecondSettingsFile, UnknownSave}
use Rattle.session_port.specs.declared.fault.Counter.{Counter}
use Rattle.session_port.specs.declared.news.FlycheckMsg.{FlycheckMsg}
use Rattle.session_port.specs.declared.news.FlycheckMsg.TheVariants as checks
use Rattle.session_port.specs.declared.news.TestMsg.{TestMsg}
use Rattle.method_table.specs.declared.request.RunTest.{RunTest}
use Rattle.session_port.specs.TurnState.{TurnState, and_then, logged, ordered, written}
use Rattle.session_port.specs.Written.{Written}
use Rattle.change_effects.specs.declared.effects.ChangeEffects.{ChangeEffects}
use Rattle.client.specs.Client.{Client}
use Rattle.client.specs.Folds.{after_asking}
use Rattle.client.specs.Steps.{asked_for, logged_if, notification_of}
use Rattle.client.specs.declared.handler.ReqHandler.{ReqHandler}
use Rattle.notify.specs.declared.outgo.MessageKind.{MessageKind}
use Rattle.notify.specs.declared.outgo.MessageKind.TheVariants.{Warning}
use Rattle.notify.specs.declared.outgo.Outgo.{Outgo}
use Rattle.notify.specs.declared.outgo.Outgo.TheVariants.{DiagnosticRefresh, ShowMessage}
use Rattle.notify.specs.declared.outgo.Outgo.TheVariants as messages
use Rattle.notify.specs.declared.progress.Progress.{Progress}
use Rattle.desk_laws.proofs.Results.{IfOk-if}
use Rattle.status.specs.Same.{is_same_status}
use Rattle.status.specs.declared.status.Status.{Status}
use Rattle.workspaces.specs.Workspaces.{Workspaces}
use Rattle.workspaces.specs.declared.follows.Follows.{Follows}
use Rattle.workspaces.specs.declared.follows.Follows.TheVariants.{Nothing, CrateData as CratesAnew, Wait, GoOn}
use Rattle.op_board.specs.Acts.{step as after_act}
use Rattle.op_board.specs.Acts.Act.{Takes}
use Rattle.op_board.specs.Board.{Board}
use Rattle.op_board.specs.Marked.{taken}
use Rattle.session_model.specs.Crates.{is_unknown}
use Rattle.session_model.specs.Diagnosing.{deleted_cleared, publication}
use Rattle.session_model.specs.Machine.{all_published, at_board, check_told, checks_heard, checks_told, files_published, found_added, marked_published, news_taken}
use Rattle.session_model.specs.Machine.{checks_announced, checks_done, checks_renewed_if, checks_restarted_if, checks_run, file_checked_if}
use Rattle.session_model.specs.Machine.{saved_file, tellings_told, tests_announced, tests_heard, tests_run, with_activities}
use Rattle.session_model.specs.Machine.{published_at, with_board}
use Rattle.session_model.specs.Machine.{asked_if, at_client, effects_done, fetch_waits, file_changed, files_changed, files_followed, further_logged}
use Rattle.session_model.specs.Machine.{loader_set, refreshes_done, roots_renewed, save_noted, saved_at, settings_filed, sources_deferred}
use Rattle.session_model.specs.Machine.{status_changed, status_done, status_kept, status_told, switch_followed, text_shown, warned, watchers_registered}
use Rattle.session_model.specs.Machine.{with_client, with_sources, with_status, with_workspaces}
use Rattle.session_model.specs.Restarting.{checks_all_on_save, checks_on_save}
use Rattle.session_model.specs.Saving.{path_saved}
use Rattle.session_model.specs.Sources.{change_for, client_with, further_files, parents_told}
use Rattle.session_model.specs.State.{Sources, State}
use Rattle.session_model.specs.Status.{opens_logs, shown_of, status_message, status_now, takes_status}
use Rattle.session_model.specs.Timing.{effects_for, fetch_planned}
use Rattle.session_model.specs.declared.facts.FactsBefore.{FactsBefore}
use Rattle.session_model.specs.declared.input.News.{News as NewsData}
use Rattle.session_model.specs.declared.input.News.TheVariants as told_news
use Rattle.session_laws.proofs.Announcing as announcing
use Rattle.session_laws.proofs.Announcing.{Announcing}
use Rattle.session_laws.proofs.Passing.{Says, says-deferred, says-notified}
use Rattle.session_laws.proofs.Running.{SameRuns, planned-runs, same-runs, save-runs}
use Rattle.session_laws.proofs.Telling.{Speaks, speaks-on, tells-none}

-- what such a step owes to a relation
pub record Saying (R : TurnState State → TurnState State → Type 0) : Type 0 where
  pub on : (w v u : TurnState State) → R w v → R v u → R w u
  -- something is written, logged or put off
  pub says : (w : TurnState State) (out : Written) → Says w.out out → R w (record { state = w.state; out = out })
  -- the client is asked for something
  pub asks : (handler : ReqHandler) (w : TurnState State) (out : Written) → Says w.out out
      → R w (record { state = with_client (after_asking handler w.state.client) w.state; out = out })
  -- nothing that runs starts or ends, and the status is another
  pub runs : (w : TurnState State) (workspaces : Workspaces) → SameRuns w.state.desk.turns w.state.workspaces workspaces
      → R w (record w { state = with_workspaces workspaces w.state })
  pub status : (w : TurnState State) (status : Status) → R w (record w { state = with_status status w.state })
  -- the board of diagnostics is another
  pub board : (w : TurnState State) (board : Board) → R w (record w { state = with_board board w.state })
  -- so is the work beside the jobs
  pub activities : (w : TurnState State) (activities : Activities) → R w (record w { state = with_activities activities w.state })

-- the settings and the sources may become others
abbrev pub MayFile : (TurnState State → TurnState State → Type 0) → Type 0
MayFile R = (w : TurnState State) (client : Client) (sources : Sources) → R w (record w { state = with_sources sources (with_client client w.state) })

-- a file may be read anew
abbrev pub MayReread : (TurnState State → TurnState State → Type 0) → Type 0
MayReread R = (path : List ℕ) (w : TurnState State) → R w (ordered (Invalidate path) w)

-- the loader may be told, with the roots that it gets
abbrev pub MayRenew : (TurnState State → TurnState State → Type 0) → Type 0
MayRenew R = (version : ℕ) (w : TurnState State) → R w (roots_renewed (loader_set version w))

module _ (R : TurnState State → TurnState State → Type 0) (owed : Saying R) where
  -- what it owes as to what is told of work beside the jobs
  abbrev pub telling : Announcing R
  telling = record {
    on = owed.on;
    says = λ w out s none. owed.says w out s;
    asks = λ handler w out s none. owed.asks handler w out s;
    activities = owed.activities;
  }

  pub none-owes : (w : TurnState State) → R w w
  none-owes w = announcing.none-owes R telling w

  -- one step and then another
  pub owes-then : (r : Result (TurnState State) Counter) (f : TurnState State → Result (TurnState State) Counter) (w : TurnState State) → IfOk r (R w)
      → ((v : TurnState State) → IfOk (f v) (R v)) → IfOk (and_then r f) (R w)
  owes-then r f w first next = announcing.owes-then R telling r f w first next

  pub behind-owes : (w v : TurnState State) (r : Result (TurnState State) Counter) → R w v → IfOk r (R v) → IfOk r (R w)
  behind-owes w v r first next = announcing.behind-owes R telling w v r first next

  pub owes-if : (b : Bool) (w v u : TurnState State) → R w v → R w u → R w (if b then v else u)
  owes-if true w v u p q = p
  owes-if false w v u p q = q

  pub logged-owes : (code : LogCode) (text : List ℕ) (w : TurnState State) → R w (logged code text w)
  logged-owes code text w = announcing.logged-owes R telling code text w

  pub logged_if-owes : (code : LogCode) (text : Option (List ℕ)) (w : TurnState State) → R w (logged_if code text w)
  logged_if-owes code text w = announcing.logged_if-owes R telling code text w

  pub notified-owes : (message : Outgo) (w : TurnState State) → R w (written (notification_of message) w)
  unfolding written
  notified-owes message w = owed.says w _ (says-notified message w)

  pub asking-owes : (message : Outgo) (handler : ReqHandler) (w : TurnState State) → IfOk (at_client (asked_for message handler) w) (R w)
  asking-owes message handler w = announcing.asking-owes R telling message handler w

  pub asked_if-owes : (wanted : Bool) (message : Outgo) (w : TurnState State) → IfOk (asked_if wanted message w) (R w)
  asked_if-owes wanted message w = announcing.asked_if-owes R telling wanted message w

  pub shown-owes : (button : Bool) (text : Option (List ℕ × MessageKind)) (w : TurnState State) → IfOk (text_shown button text w) (R w)
  shown-owes button text w = announcing.shown-owes R telling button text w

  -- ---- what is told of work beside the jobs

  pub told-owe : (told : List Telling) (w : TurnState State) → IfOk (tellings_told told w) (R w)
  told-owe told w = announcing.told-owe R telling told w

  pub checks-announced-owe : (told : Announced Checks) (w : TurnState State) → IfOk (checks_announced told w) (R w)
  checks-announced-owe told w = announcing.checks-announced-owe R telling told w

  pub tests-announced-owe : (told : Announced Tests) (w : TurnState State) → IfOk (tests_announced told w) (R w)
  tests-announced-owe told w = announcing.tests-announced-owe R telling told w

  pub renewed_if-owes : (b : Bool) (w : TurnState State) → IfOk (checks_renewed_if b w) (R w)
  renewed_if-owes b w = announcing.renewed_if-owes R telling b w

  pub restarted_if-owes : (b : Bool) (w : TurnState State) → IfOk (checks_restarted_if b w) (R w)
  restarted_if-owes b w = announcing.restarted_if-owes R telling b w

  pub checked_if-owes : (b : Bool) (path : List ℕ) (w : TurnState State) → IfOk (file_checked_if b path w) (R w)
  checked_if-owes b path w = announcing.checked_if-owes R telling b path w

  pub checks-done-owe : (facts : FactsBefore) (w : TurnState State) → IfOk (checks_done facts w) (R w)
  checks-done-owe facts w = announcing.checks-done-owe R telling facts w

  pub tests-run-owe : (run : Option RunTest) (w : TurnState State) → IfOk (tests_run run w) (R w)
  tests-run-owe run w = announcing.tests-run-owe R telling run w

  -- ---- files that changed

  further-owes : (paths : List (List ℕ)) (w : TurnState State) → R w (further_logged paths w)
  unfolding further_logged
  further-owes [] w = none-owes w
  further-owes (path ∷ paths) w =
      let v : TurnState State = logged SecondSettingsFile path w in
      owed.on w v _ (logged-owes SecondSettingsFile path w) (further-owes paths v)

  deferred-owes : (sources : Option (List FileId)) (w : TurnState State) → R w (sources_deferred sources w)
  unfolding sources_deferred ordered
  deferred-owes None w = none-owes w
  deferred-owes (Some files) w = owed.says w _ (says-deferred (CheckProcMacroSources files) w)

  pub files-followed-owe : MayFile R → (changes : List ChangedFile) (w : TurnState State) → R w (files_followed changes w)
  unfolding files_followed effects_done fetch_waits settings_filed
  files-followed-owe may [] w = none-owes w
  files-followed-owe may (change ∷ changes) w =
      let effects : ChangeEffects = effects_for w.state.client.settings (change ∷ changes) w.state.workspaces in
      let settings = change_for effects.settings w.state.files.host.world.roots w.state.sources w.state.workspaces.present in
      let cleared : TurnState State = at_board (deleted_cleared (change ∷ changes)) w in
      let put : TurnState State =
      record cleared { state = with_sources (parents_told w.state.sources) (with_client (client_with settings w.state.client) cleared.state) } in
      let filed : TurnState State = further_logged (further_files settings) put in
      let deferred : TurnState State = sources_deferred effects.macro_sources filed in
      owed.on w cleared _ (owed.board w (deleted_cleared (change ∷ changes) w.state.board))
      (owed.on cleared put _ (may cleared (client_with settings w.state.client) (parents_told w.state.sources))
      (owed.on put filed _ (further-owes (further_files settings) put)
      (owed.on filed deferred _ (deferred-owes effects.macro_sources filed)
      (owed.runs deferred (fetch_planned deferred.state.desk.turns effects.fetch deferred.state.workspaces)
      (planned-runs deferred.state.desk.turns effects.fetch deferred.state.workspaces)))))

  -- ---- files that were saved, and files that are to be read anew

  noted-owes : (unknown : Bool) (path : List ℕ) (w : TurnState State) → R w (save_noted unknown path w)
  unfolding save_noted
  noted-owes true path w = logged-owes UnknownSave path w
  noted-owes false path w = none-owes w

  saved-file-owes : (path : List ℕ) (w : TurnState State) → R w (saved_file path w)
  saved-file-owes path w =
      let noted : TurnState State = save_noted (is_unknown w.state.files.ids path) path w in
      owed.on w noted _ (noted-owes (is_unknown w.state.files.ids path) path w)
      (owed.runs noted (path_saved w.state.client.settings w.state.files path noted.state.workspaces)
      (save-runs noted.state.desk.turns w.state.client.settings w.state.files path noted.state.workspaces))

  pub saved-owes : (o : Result (List ℕ) UrlFault) (uri : List ℕ) (w : TurnState State) → IfOk (saved_at o uri w) (R w)
  unfolding saved_at
  saved-owes (Err fault) uri w =
      let v : TurnState State = logged BadPath uri w in
      behind-owes w v (checks_restarted_if (checks_all_on_save w.state.client.settings) v) (logged-owes BadPath uri w)
      (restarted_if-owes (checks_all_on_save w.state.client.settings) v)
  saved-owes (Ok path) uri w =
      let checks : Bool = checks_on_save w.state.client.settings w.state.files.host.world.roots path in
      behind-owes w (saved_file path w) (file_checked_if checks path (saved_file path w)) (saved-file-owes path w)
      (checked_if-owes checks path (saved_file path w))

  pub checks-run-owe : (uri : Option (List ℕ)) (w : TurnState State) → IfOk (checks_run uri w) (R w)
  checks-run-owe uri w = announcing.checks-run-owe R telling uri w

  file-owes : MayReread R → (url : List ℕ) (o : Result (List ℕ) UrlFault) (w : TurnState State) → R w (file_changed url o w)
  unfolding file_changed
  file-owes may url (Err fault) w = logged-owes _ url w
  file-owes may url (Ok path) w = may path w

  pub watched-owe : MayReread R → (seen : map.FinMap text_cmp (Unit {0})) (urls : List (List ℕ)) (w : TurnState State) → R w (files_changed seen urls w)
  unfolding files_changed
  watched-owe may seen [] w = none-owes w
  watched-owe may seen (url ∷ urls) w =
      let v : TurnState State = file_changed url (path_of url) w in
      let more = map.insert seen url tt in
      owes-if (is_some (map.get seen url)) w (files_changed seen urls w) (files_changed more urls v) (watched-owe may seen urls w)
      (owed.on w v _ (file-owes may url (path_of url) w) (watched-owe may more urls v))

  -- ---- what is told

  pub refreshes-owe : (facts : FactsBefore) (w : TurnState State) → IfOk (refreshes_done facts w) (R w)
  refreshes-owe facts w = announcing.refreshes-owe R telling facts w

  published-owes : (path : Option (List ℕ)) (file : FileId) (w : TurnState State) → R w (published_at path file w)
  unfolding published_at
  published-owes None file w = none-owes w
  published-owes (Some path) file w = notified-owes (publication w.state.files w.state.board file path) w

  all-published-owe : (files : List FileId) (w : TurnState State) → R w (all_published files w)
  all-published-owe [] w = none-owes w
  all-published-owe (file ∷ files) w =
      let v : TurnState State = published_at (path_at w.state.files.table file) file w in
      owed.on w v _ (published-owes (path_at w.state.files.table file) file w) (all-published-owe files v)

  files-published-owe : (files : Option (List FileId)) (w : TurnState State) → R w (files_published files w)
  files-published-owe None w = none-owes w
  files-published-owe (Some files) w = all-published-owe files w

  pub marked-owe : (w : TurnState State) → R w (marked_published w)
  unfolding marked_published
  marked-owe w =
      let v : TurnState State = at_board (after_act Takes) w in
      owed.on w v _ (owed.board w (after_act Takes w.state.board)) (files-published-owe (taken w.state.board.marked) v)

  pub status-owes : (w : TurnState State) → IfOk (status_done w) (R w)
  unfolding status_done status_kept status_changed status_told
  status-owes w =
      let status : Status = status_now w.state.client w.state.files w.state.workspaces w.state.activities.checks in
      owes-then (status_changed status w) _ w
      (IfOk-if (is_same_status w.state.status status) (Ok w) (status_told status w) (R w) (none-owes w)
      (IfOk-if (takes_status w.state.client.settings) _ _ (R w) (notified-owes (status_message status) w)
      (shown-owes (opens_logs w.state.client.settings w.state.workspaces) (shown_of status) w)))
      (λ v. owed.status v status)

  pub warned-owes : (texts : List (List ℕ)) (w : TurnState State) → R w (warned texts w)
  unfolding warned
  warned-owes [] w = none-owes w
  warned-owes (text ∷ texts) w =
      let v : TurnState State = written (notification_of (ShowMessage text Warning)) w in
      owed.on w v _ (notified-owes (ShowMessage text Warning) w) (warned-owes texts v)

  pub switch-followed-owes : MayRenew R → (follows : Follows) (w : TurnState State) → IfOk (switch_followed follows w) (R w)
  unfolding switch_followed watchers_registered
  switch-followed-owes renews Nothing w = none-owes w
  switch-followed-owes renews CratesAnew w = told-owe graph_told w
  switch-followed-owes renews (Wait msrv) w = warned-owes msrv w
  switch-followed-owes renews (GoOn msrv version initial) w =
      let v : TurnState State = warned msrv w in
      let next : TurnState State → Result (TurnState State) Counter = λ u. tellings_told graph_told (roots_renewed (loader_set version u)) in
      behind-owes w v (and_then (watchers_registered v) next) (warned-owes msrv w)
      (owes-then (watchers_registered v) next v (asked_if-owes _ _ v)
      (λ u. behind-owes u (roots_renewed (loader_set version u)) (next u) (renews version u) (told-owe graph_told (roots_renewed (loader_set version u)))))

  -- ---- news of checks

  found-owes : (id generation : ℕ) (of_package : Option (List ℕ)) (path : List ℕ) (diagnostic : Diagnostic) (fix : Option Data)
      (file : Option (FileId × FileExcluded)) (w : TurnState State) → R w (found_added id generation of_package path diagnostic fix file w)
  unfolding found_added
  found-owes id generation of_package path diagnostic fix None w = logged-owes CheckUnknownFile path w
  found-owes id generation of_package path diagnostic fix (Some (file, Yes)) w = none-owes w
  found-owes id generation of_package path diagnostic fix (Some (file, No)) w = owed.board w _

  check-owes : (message : FlycheckMsg) (w : TurnState State) → IfOk (check_told message w) (R w)
  unfolding check_told
  check-owes (checks.AddDiagnostic id generation of_package path diagnostic fix) w =
      found-owes id generation of_package path diagnostic fix (map.get w.state.files.ids path) w
  check-owes (checks.ClearDiagnostics id of_package older_than) w = owed.board w _
  check-owes (checks.Progress id progress) w =
      checks-announced-owe (progressed w.state.client.settings id progress w.state.activities.checks) w

  checks-owe : (messages : List FlycheckMsg) (w : TurnState State) → IfOk (checks_told messages w) (R w)
  unfolding checks_told
  checks-owe [] w = none-owes w
  checks-owe (message ∷ later) w = owes-then (check_told message w) (checks_told later) w (check-owes message w) (checks-owe later)

  checks-heard-owe : (messages : List FlycheckMsg) (w : TurnState State) → IfOk (checks_heard messages w) (R w)
  unfolding checks_heard
  checks-heard-owe messages w = owes-then (checks_told messages w) _ w (checks-owe messages w) (asked_if-owes _ DiagnosticRefresh)

  tests-heard-owe : (messages : List TestMsg) (w : TurnState State) → IfOk (tests_heard messages w) (R w)
  tests-heard-owe messages w = announcing.tests-heard-owe R telling messages w

  pub news-owe : (news : NewsData) (w : TurnState State) → IfOk (news_taken news w) (R w)
  unfolding news_taken
  news-owe (told_news.Flycheck messages) w = checks-heard-owe messages w
  news-owe (told_news.TestResult messages) w = tests-heard-owe messages w
  news-owe (told_news.DiscoverProject messages) w = none-owes w

-- what the client and the host are told
pub speaking : Saying Speaks
speaking = record {
  on = speaks-on;
  says = λ w out s. record { tells = s.tells; desk = refl; files = refl; runs = same-runs w.state.desk.turns w.state.workspaces w.state.workspaces refl };
  asks = λ handler w out s. record {
    tells = s.tells;
    desk = refl;
    files = refl;
    runs =
        same-runs w.state.desk.turns w.state.workspaces w.state.workspaces refl;
  };
  runs = λ w workspaces same. record { tells = tells-none w.out; desk = refl; files = refl; runs = same };
  status = λ w status. record {
    tells = tells-none w.out;
    desk = refl;
    files = refl;
    runs =
        same-runs w.state.desk.turns w.state.workspaces w.state.workspaces refl;
  };
  board = λ w board. record {
    tells = tells-none w.out;
    desk = refl;
    files = refl;
    runs =
        same-runs w.state.desk.turns w.state.workspaces w.state.workspaces refl;
  };
  activities = λ w activities. record {
    tells = tells-none w.out;
    desk = refl;
    files = refl;
    runs =
        same-runs w.state.desk.turns w.state.workspaces w.state.workspaces refl;
  };
}
