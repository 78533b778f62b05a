-- What is told of work beside the jobs, for any relation between what was before a step and what is behind it.
use Rattle.std.proofs.Common.{◌≡◌, ◌∙◌, ap, append-nil, ℕ, List, [], ◌∷◌, ◌++◌, length, Bool, true, false, refl, sym, subst}
use Rattle.std.specs.List.{cons_option}
use Rattle.std.proofs.lemmas.List.Elements.{filter_map-append}
use Rattle.activities.specs.Announced.{Announced}
use Rattle.activities.specs.Checks.{Checks, all_restarted, checks_set}
use Rattle.activities.specs.TestRun.{Tests, run_asked, test_told}
use Rattle.activities.specs.declared.activities.Activities.{Activities}
use Rattle.activities.specs.declared.telling.Telling.{Telling}
use Rattle.activities.specs.declared.telling.Telling.TheVariants as tellings
use Rattle.std.specs.Prelude.{◌==◌, Option, None, Some, Result, Ok, Err, IfOk, if◌then◌else◌}
use Rattle.docs_vfs.specs.FileUrls.{path_of}
use Rattle.docs_vfs.specs.declared.file_url.UrlFault.{UrlFault}
use Rattle.lsp_frame.specs.Outgoing.{number_limit}
use Rattle.lsp_frame.specs.declared.message.Message.{Message}
use Rattle.ra_config.specs.declared.capabilities.Capabilities.{Capabilities}
use Rattle.session_port.specs.declared.command.Command.TheVariants as orders
use Rattle.session_port.specs.declared.command.LogCode.{LogCode}
use Rattle.session_port.specs.declared.command.LogCode.TheVariants.{BadPath}
use Rattle.session_port.specs.declared.fault.Counter.{Counter}
use Rattle.session_port.specs.declared.fault.Counter.TheVariants.{Outgoing}
use Rattle.session_port.specs.declared.news.FlycheckMsg.TheVariants as checks
use Rattle.session_port.specs.declared.news.TestMsg.{TestMsg}
use Rattle.method_table.specs.declared.request.RunTest.{RunTest}
use Rattle.session_port.specs.TurnState.{TurnState, and_then, logged, ordered, written}
use Rattle.session_port.specs.Written.{Written}
use Rattle.client.specs.Client.{Client}
use Rattle.client.specs.Folds.{after_asking}
use Rattle.client.specs.Progress.{progress_reported, progress_shown, shows_progress, token_of, token_shown, value_at}
use Rattle.client.specs.Steps.{asked_for, logged_if, notification_of, request_at}
use Rattle.client.specs.declared.work.WorkProgress.{WorkProgress}
use Rattle.client.specs.declared.handler.ReqHandler.{ReqHandler}
use Rattle.client.specs.declared.handler.ReqHandler.TheVariants.{Ignore, OpenLogs}
use Rattle.notify.specs.declared.outgo.MessageKind.{MessageKind}
use Rattle.notify.specs.declared.outgo.MessageKind.TheVariants.{Error}
use Rattle.notify.specs.declared.outgo.Outgo.{Outgo}
use Rattle.notify.specs.declared.outgo.Outgo.TheVariants.{CodeLensRefresh, DiagnosticRefresh, InlayHintRefresh, SemanticTokensRefresh, ShowMessage}
use Rattle.notify.specs.declared.outgo.Outgo.TheVariants.{CreateProgress, ShowMessageRequest}
use Rattle.notify.specs.declared.outgo.Outgo.TheVariants.{Progress as ProgressTold}
use Rattle.notify.specs.declared.outgo.Outgo.TheVariants as messages
use Rattle.notify.specs.declared.progress.Progress.{Progress}
use Rattle.notify.specs.declared.progress.Progress.TheVariants as states
use Rattle.desk_laws.proofs.Results.{IfOk-and_then, IfOk-if, IfOk-weaker, IfOk-within}
use Rattle.session_model.specs.Machine.{checks_announced, checks_done, checks_renewed_if, checks_restarted_if, checks_run, file_checked_at, file_checked_if}
use Rattle.session_model.specs.Machine.{telling_told, tellings_told, tests_announced, tests_heard, tests_run, with_activities}
use Rattle.session_model.specs.Machine.{asked_if, at_client, client_in}
use Rattle.session_model.specs.Machine.{refreshes_done, client_refreshed}
use Rattle.session_model.specs.Machine.{text_shown}
use Rattle.session_model.specs.Machine.{with_client}
use Rattle.session_model.specs.Restarting.{checks_workspaces, restart_at_rest, restarts_for}
use Rattle.session_model.specs.State.{State}
use Rattle.session_model.specs.Telling.{begun_work, ended_work, reported_work}
use Rattle.session_model.specs.declared.facts.FactsBefore.{FactsBefore}
use Rattle.session_laws.specs.Published.{Published, published_among, published_by}
use Rattle.session_laws.proofs.Passing.{Asks, Says, asked-says, says-logged, says-none, says-notified, says-on, says-ordered}

-- ---- what publishes nothing

abbrev pub Unpublished : Written → Written → Type 0
Unpublished old new = published_among new.messages ≡ published_among old.messages

-- a message that doesn't
pub written-unpublished : {S : Type 0} (message : Message) (w : TurnState S) → published_by message ≡ None → Unpublished w.out (written message w).out
unfolding written
written-unpublished message w none =
    filter_map-append published_by w.out.messages (message ∷ [])
    ∙ ap (λ (o : Option Published). published_among w.out.messages ++ cons_option o []) none ∙ append-nil _

-- what is asked of the client does not
abbrev AsksUnpublished : ReqHandler → TurnState Client → TurnState Client → Type 0
AsksUnpublished handler w v = Asks handler w v × Unpublished w.out v.out

asked-cases : (message : Outgo) (handler : ReqHandler) (w : TurnState Client) (b : Bool)
    → (let asked : Result (TurnState Client) Counter =
    if b then Err Outgoing else Ok (written (request_at w.state.asked.given message) (record w { state = after_asking handler w.state })) in
    IfOk asked (Asks handler w) → IfOk asked (AsksUnpublished handler w))
asked-cases message handler w true h = tt
asked-cases message handler w false h =
    (h, written-unpublished (request_at w.state.asked.given message) (record w { state = after_asking handler w.state }) refl)

pub asked-unpublished : (message : Outgo) (handler : ReqHandler) (w : TurnState Client) → IfOk (asked_for message handler w) (AsksUnpublished handler w)
unfolding asked_for
asked-unpublished message handler w =
    asked-cases message handler w (w.state.asked.given == number_limit) (asked-says message handler w)

-- what such a step owes to a relation
pub record Announcing (R : TurnState State → TurnState State → Type 0) : Type 0 where
  pub on : (w v u : TurnState State) → R w v → R v u → R w u
  -- something is written, logged, put off, or ordered of work beside the jobs
  pub says : (w : TurnState State) (out : Written) → Says w.out out → Unpublished w.out out → R w (record { state = w.state; out = out })
  -- the client is asked for something
  pub asks : (handler : ReqHandler) (w : TurnState State) (out : Written) → Says w.out out → Unpublished w.out out
      → R w (record { state = with_client (after_asking handler w.state.client) w.state; out = out })
  -- the work beside the jobs is another
  pub activities : (w : TurnState State) (activities : Activities) → R w (record w { state = with_activities activities w.state })

module _ (R : TurnState State → TurnState State → Type 0) (owed : Announcing R) where
  pub none-owes : (w : TurnState State) → R w w
  none-owes w = owed.says w w.out (says-none w.out) refl

  -- one step and then another
  pub owes-then : (r : Result (TurnState State) Counter) (f : TurnState State → Result (TurnState State) Counter) (w : TurnState State) → IfOk r (R w)
      → ((v : TurnState State) → IfOk (f v) (R v)) → IfOk (and_then r f) (R w)
  owes-then r f w first next = IfOk-and_then r f (R w) (R w) first (λ v p. IfOk-weaker (f v) (R v) (R w) (next v) (λ u q. owed.on w v u p q))

  pub logged-owes : (code : LogCode) (text : List ℕ) (w : TurnState State) → R w (logged code text w)
  unfolding logged ordered
  logged-owes code text w = owed.says w _ (says-logged code text w) refl

  pub logged_if-owes : (code : LogCode) (text : Option (List ℕ)) (w : TurnState State) → R w (logged_if code text w)
  logged_if-owes code None w = none-owes w
  logged_if-owes code (Some text) w = logged-owes code text w

  -- it is told something that publishes nothing
  pub notified-owes : (message : Outgo) (w : TurnState State) → published_by (notification_of message) ≡ None
      → R w (written (notification_of message) w)
  unfolding written
  notified-owes message w none = owed.says w _ (says-notified message w) (written-unpublished (notification_of message) w none)

  -- the client is asked for something
  pub asking-owes : (message : Outgo) (handler : ReqHandler) (w : TurnState State) → IfOk (at_client (asked_for message handler) w) (R w)
  asking-owes message handler w =
      let client : TurnState Client = record { state = w.state.client; out = w.out } in
      IfOk-within client_in with_client (asked_for message handler) w (R w)
      (IfOk-weaker (asked_for message handler client) (AsksUnpublished handler client) _ (asked-unpublished message handler client)
      (λ v p. subst (λ (c : Client). R w (record { state = with_client c w.state; out = v.out })) (sym p.0.1) (owed.asks handler w v.out p.0.0 p.1)))

  pub asked_if-owes : (wanted : Bool) (message : Outgo) (w : TurnState State) → IfOk (asked_if wanted message w) (R w)
  unfolding asked_if
  asked_if-owes true message w = asking-owes message Ignore w
  asked_if-owes false message w = none-owes w

  -- ---- what is told of work beside the jobs

  pub shown-owes : (button : Bool) (text : Option (List ℕ × MessageKind)) (w : TurnState State) → IfOk (text_shown button text w) (R w)
  unfolding text_shown
  shown-owes button None w = none-owes w
  shown-owes true (Some text) w = asking-owes (ShowMessageRequest text.0 text.1) OpenLogs w
  shown-owes false (Some text) w = notified-owes (ShowMessage text.0 text.1) w refl

  -- the client, within the session
  abbrev ClientOwes : TurnState State → TurnState Client → Type 0
  ClientOwes w v = R w (record { state = with_client v.state w.state; out = v.out })

  token-owes : (state : Progress) (token : List ℕ) (w : TurnState State)
      → IfOk (token_shown state token (record { state = w.state.client; out = w.out })) (ClientOwes w)
  unfolding token_shown
  token-owes states.Begin token w =
      let client : TurnState Client = record { state = w.state.client; out = w.out } in
      IfOk-weaker (asked_for (CreateProgress token) Ignore client) (AsksUnpublished Ignore client) (ClientOwes w)
      (asked-unpublished (CreateProgress token) Ignore client)
      (λ v p. subst (λ (c : Client). R w (record { state = with_client c w.state; out = v.out })) (sym p.0.1) (owed.asks Ignore w v.out p.0.0 p.1))
  token-owes states.Report token w = none-owes w
  token-owes states.End token w = none-owes w

  shown-progress-owes : (work : WorkProgress) (w : TurnState State)
      → IfOk (progress_shown work (record { state = w.state.client; out = w.out })) (ClientOwes w)
  unfolding progress_shown written
  shown-progress-owes work w =
      let message : Outgo = ProgressTold (token_of work) (value_at work.state work) in
      IfOk-and_then (token_shown work.state (token_of work) (record { state = w.state.client; out = w.out }))
      (λ v. Ok (written (notification_of message) v)) (ClientOwes w) (ClientOwes w) (token-owes work.state (token_of work) w)
      (λ v p. let u : TurnState State = record { state = with_client v.state w.state; out = v.out } in owed.on w u _ p (notified-owes message u refl))

  -- it is told how far some work is
  pub progress-owes : (work : WorkProgress) (w : TurnState State) → IfOk (at_client (progress_reported work) w) (R w)
  unfolding progress_reported
  progress-owes work w =
      let client : TurnState Client = record { state = w.state.client; out = w.out } in
      IfOk-within client_in with_client (progress_reported work) w (R w)
      (IfOk-if (shows_progress w.state.client.settings) (progress_shown work client) (Ok client) (ClientOwes w) (shown-progress-owes work w) (none-owes w))

  telling-owes : (telling : Telling) (w : TurnState State) → IfOk (telling_told telling w) (R w)
  unfolding telling_told ordered
  telling-owes (tellings.Begin title token message percentage) w = progress-owes (begun_work title token message percentage) w
  telling-owes (tellings.Report title token message percentage) w = progress-owes (reported_work title token message percentage) w
  telling-owes (tellings.End title token message) w = progress-owes (ended_work title token message) w
  telling-owes (tellings.ShowError message button) w = shown-owes button (Some (message, Error)) w
  telling-owes (tellings.TestState state id) w = notified-owes (messages.TestState state id) w refl
  telling-owes tellings.EndRunTest w = notified-owes messages.EndRunTest w refl
  telling-owes (tellings.AppendOutput text) w = notified-owes (messages.AppendOutput text) w refl
  telling-owes (tellings.Log code text) w = logged-owes code text w
  telling-owes (tellings.SetChecks set) w =
      owed.says w _ (says-ordered (orders.SetChecks set) w (λ number_of over. over.sets set) refl refl) refl
  telling-owes (tellings.RestartCheck id scope) w =
      owed.says w _ (says-ordered (orders.RestartCheck id scope) w (λ number_of over. over.restarts id scope) refl refl) refl
  telling-owes (tellings.CancelCheck id) w =
      owed.says w _ (says-ordered (orders.CancelCheck id) w (λ number_of over. over.cancels id) refl refl) refl
  telling-owes (tellings.RunTest include exclude) w =
      owed.says w _ (says-ordered (orders.RunTest include exclude) w (λ number_of over. over.runs include exclude) refl refl) refl
  telling-owes tellings.StopTest w =
      owed.says w _ (says-ordered orders.StopTest w (λ number_of over. over.stops) refl refl) refl
  telling-owes (tellings.Discover arg) w =
      owed.says w _ (says-ordered (orders.Discover arg) w (λ number_of over. over.discovers arg) refl refl) refl

  pub told-owe : (told : List Telling) (w : TurnState State) → IfOk (tellings_told told w) (R w)
  unfolding tellings_told
  told-owe [] w = none-owes w
  told-owe (telling ∷ later) w = owes-then (telling_told telling w) (tellings_told later) w (telling-owes telling w) (told-owe later)

  -- the work beside the jobs comes to this, and is told
  announced-owes : (activities : Activities) (told : List Telling) (w : TurnState State)
      → IfOk (tellings_told told (record w { state = with_activities activities w.state })) (R w)
  announced-owes activities told w =
      let v : TurnState State = record w { state = with_activities activities w.state } in
      IfOk-weaker (tellings_told told v) (R v) (R w) (told-owe told v) (λ u p. owed.on w v u (owed.activities w activities) p)

  pub checks-announced-owe : (told : Announced Checks) (w : TurnState State) → IfOk (checks_announced told w) (R w)
  unfolding checks_announced
  checks-announced-owe told w = announced-owes (record w.state.activities { checks = told.state }) told.tellings w

  pub tests-announced-owe : (told : Announced Tests) (w : TurnState State) → IfOk (tests_announced told w) (R w)
  unfolding tests_announced
  tests-announced-owe told w = announced-owes (record w.state.activities { tests = told.state }) told.tellings w

  -- ---- checks, and the run of tests

  pub renewed_if-owes : (b : Bool) (w : TurnState State) → IfOk (checks_renewed_if b w) (R w)
  unfolding checks_renewed_if
  renewed_if-owes false w = none-owes w
  renewed_if-owes true w = checks-announced-owe (checks_set w.state.client.settings w.state.workspaces.present w.state.activities.checks) w

  pub restarted_if-owes : (b : Bool) (w : TurnState State) → IfOk (checks_restarted_if b w) (R w)
  unfolding checks_restarted_if
  restarted_if-owes false w = none-owes w
  restarted_if-owes true w = told-owe (all_restarted w.state.activities.checks) w

  pub checked_if-owes : (b : Bool) (path : List ℕ) (w : TurnState State) → IfOk (file_checked_if b path w) (R w)
  unfolding file_checked_if
  checked_if-owes false path w = none-owes w
  checked_if-owes true path w = told-owe (restarts_for w.state.client.settings w.state.files path w.state.activities.checks) w

  pub checks-done-owe : (facts : FactsBefore) (w : TurnState State) → IfOk (checks_done facts w) (R w)
  unfolding checks_done
  checks-done-owe facts w =
      owes-then (checks_renewed_if facts.crates w) _ w (renewed_if-owes facts.crates w)
      (λ v. restarted_if-owes (restart_at_rest facts.quiescent v.state.client.settings v.state.files v.state.workspaces) v)

  pub tests-run-owe : (run : Option RunTest) (w : TurnState State) → IfOk (tests_run run w) (R w)
  unfolding tests_run
  tests-run-owe None w = none-owes w
  tests-run-owe (Some run) w =
      tests-announced-owe (run_asked run.include run.exclude (length w.state.workspaces.present) w.state.activities.tests) w

  checked-at-owes : (uri : List ℕ) (o : Result (List ℕ) UrlFault) (w : TurnState State) → IfOk (file_checked_at uri o w) (R w)
  unfolding file_checked_at
  checked-at-owes uri (Err fault) w = logged-owes BadPath uri w
  checked-at-owes uri (Ok path) w = checked_if-owes true path w

  pub checks-run-owe : (uri : Option (List ℕ)) (w : TurnState State) → IfOk (checks_run uri w) (R w)
  unfolding checks_run
  checks-run-owe None w = restarted_if-owes (checks_workspaces w.state.client.settings) w
  checks-run-owe (Some uri) w = checked-at-owes uri (path_of uri) w

  pub tests-heard-owe : (messages : List TestMsg) (w : TurnState State) → IfOk (tests_heard messages w) (R w)
  unfolding tests_heard
  tests-heard-owe [] w = none-owes w
  tests-heard-owe (message ∷ messages) w =
      owes-then (tests_announced (test_told message w.state.activities.tests) w) (tests_heard messages) w
      (tests-announced-owe (test_told message w.state.activities.tests) w) (tests-heard-owe messages)

  -- behind a step that owes
  pub behind-owes : (w v : TurnState State) (r : Result (TurnState State) Counter) → R w v → IfOk r (R v) → IfOk r (R w)
  behind-owes w v r first next = IfOk-weaker r (R v) (R w) next (λ u p. owed.on w v u first p)

  -- ---- what is asked anew

  refreshed-owes : (can : Capabilities) (w : TurnState State) → IfOk (client_refreshed can w) (R w)
  unfolding client_refreshed
  refreshed-owes can w =
      owes-then (asked_if can.semantic_tokens_refresh SemanticTokensRefresh w) _ w (asked_if-owes can.semantic_tokens_refresh SemanticTokensRefresh w)
      (λ v. owes-then (asked_if can.code_lens_refresh CodeLensRefresh v) _ v (asked_if-owes can.code_lens_refresh CodeLensRefresh v)
      (λ u. owes-then (asked_if can.inlay_hints_refresh InlayHintRefresh u) _ u (asked_if-owes can.inlay_hints_refresh InlayHintRefresh u)
      (asked_if-owes can.diagnostics_refresh DiagnosticRefresh)))

  pub refreshes-owe : (facts : FactsBefore) (w : TurnState State) → IfOk (refreshes_done facts w) (R w)
  unfolding refreshes_done
  refreshes-owe facts w = IfOk-if _ _ (Ok w) (R w) (refreshed-owes w.state.client.settings.capabilities w) (none-owes w)

-- ---- what it leaves

-- something is said that publishes nothing, and but for the client's requests and the work beside the jobs all stays
pub record Announces (w v : TurnState State) : Type 0 where
  pub says : Says w.out v.out
  pub unpublished : Unpublished w.out v.out
  pub state : v.state ≡ record w.state { client = record w.state.client { asked = v.state.client.asked }; activities = v.state.activities }

announces-on : (w v u : TurnState State) → Announces w v → Announces v u → Announces w u
announces-on w v u p q = record {
  says = says-on w.out v.out u.out p.says q.says;
  unpublished = q.unpublished ∙ p.unpublished;
  state = q.state
      ∙ ap (λ (s : State). record s { client = record s.client { asked = u.state.client.asked }; activities = u.state.activities }) p.state;
}

pub announcing : Announcing Announces
announcing = record {
  on = announces-on;
  says = λ w out s none. record { says = s; unpublished = none; state = refl };
  asks = λ handler w out s none. record { says = s; unpublished = none; state = refl };
  activities = λ w activities. record { says = says-none w.out; unpublished = refl; state = refl };
}
