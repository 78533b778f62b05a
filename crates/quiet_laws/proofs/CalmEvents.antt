-- An event in a session that is quiescent leaves what a batch goes by, unless documents come or go with it.
use Rattle.std.proofs.Common.{◌≡◌, ℕ, List, Bool, true, false, refl, sym, subst, ap, ◌∙◌}
use Rattle.std.specs.Prelude.{Some, is_ok, Result, Ok, Err, IfOk, if◌then◌else◌}
use Rattle.docs_vfs.specs.FileUrls.{path_of}
use Rattle.docs_vfs.specs.declared.file_url.UrlFault.{UrlFault}
use Rattle.lsp_frame.specs.declared.message.Message.TheVariants.{Request as RequestMessage, Notification as NotificationMessage, Response as ResponseMessage}
use Rattle.notify.specs.declared.notice.DidChange.{DidChange}
use Rattle.notify.specs.declared.notice.DidOpen.{DidOpen}
use Rattle.notify.specs.declared.notice.Notice.{Notice}
use Rattle.notify.specs.declared.notice.Notice.TheVariants as notices
use Rattle.session_port.specs.declared.command.LogCode.TheVariants.{UnexpectedChange}
use Rattle.session_port.specs.declared.event.LoaderMsg.{LoaderMsg}
use Rattle.session_port.specs.declared.fault.Counter.{Counter}
use Rattle.session_port.specs.TurnState.{TurnState, logged, ordered}
use Rattle.text_core.specs.declared.position.PositionEncoding.{PositionEncoding}
use Rattle.desk.specs.Meaning.{Meaning}
use Rattle.desk_laws.proofs.Results.{IfOk-and_then, IfOk-weaker, IfOk-within}
use Rattle.session_files.specs.Current.{IsSound}
use Rattle.session_files.specs.Folds.{after_editing, after_messages, is_open}
use Rattle.session_files.specs.SessionFiles.{SessionFiles}
use Rattle.session_files.specs.Steps.{become, changed_document, edited_document, loaded}
use Rattle.session_model.specs.Diagnosing.{opens_or_closes}
use Rattle.session_model.specs.Hearing.{heard_of, told_by}
use Rattle.session_model.specs.Machine.{all_resumed, answer_taken, at_files, batched, came_or_went, document_changed_at, document_closed_at, document_opened_at}
use Rattle.session_model.specs.Machine.{files_in, happened, loader_brought, loader_taken, news_taken, noticed, received, request_taken, tellings_told, told}
use Rattle.session_model.specs.Machine.{with_files}
use Rattle.activities.specs.Scanning.{scans_told}
use Rattle.activities.specs.declared.telling.Telling.{Telling}
use Rattle.quiet_laws.proofs.Parts.{LeavesAll, told-leave}
use Rattle.workspaces.specs.Workspaces.{Workspaces}
use Rattle.session_model.specs.State.{State, columns_in}
use Rattle.session_model.specs.Timing.{bring_files, renewed_if}
use Rattle.session_model.specs.declared.heard.Heard.{Heard}
use Rattle.session_model.specs.declared.heard.Heard.TheVariants.{Told, Malformed, Unhandled, Silent}
use Rattle.session_model.specs.declared.input.Event.{Event}
use Rattle.session_model.specs.declared.input.Event.TheVariants.{Lsp, Task, Vfs, Deferred, News, Timer}
use Rattle.session_model.specs.declared.input.Input.TheVariants.{Next}
use Rattle.quiet_laws.proofs.Bools.{true-false}
use Rattle.quiet_laws.proofs.CalmFiles.{Brings, brings-same, editing-brings, messages-bring}
use Rattle.quiet_laws.proofs.CalmKnown.{OpenAreNumbered}
use Rattle.quiet_laws.proofs.HearingEvents.{all-resume, answer-goes, batch-takes, request-goes, told-goes}
use Rattle.quiet_laws.proofs.HearingSteps.{Calms, Goes, Takes, goes-logged, news-goes}
use Rattle.quiet_laws.proofs.HearingWork.{Asks, fire-last, renewed-asks}
use Rattle.quiet_laws.proofs.Resting.{IsIdle}

-- what a batch goes by stays, and no switch comes to be wanted
pub record Calm (s e : State) : Type 0 where
  pub files : Brings s.files e.files
  pub cleared : e.board.cleared ≡ s.board.cleared
  pub last : e.workspaces.fetches.queue.last ≡ s.workspaces.fetches.queue.last
  pub switch : e.workspaces.switch_wanted ≡ s.workspaces.switch_wanted

abbrev CalmFrom : TurnState State → TurnState State → Type 0
CalmFrom w v = Calm w.state v.state

files-same : (old new : SessionFiles) → new ≡ old → Brings old new
files-same old new same = brings-same old new (ap (λ (f : SessionFiles). f.host) same) (ap (λ (f : SessionFiles). f.versions) same)
    (ap (λ (f : SessionFiles). f.ids) same)

pub calm-none : (s : State) → Calm s s
calm-none s = record { files = files-same s.files s.files refl; cleared = refl; last = refl; switch = refl }

calm-goes : (w v : TurnState State) → Goes w v → CalmFrom w v
calm-goes w v goes = record {
  files = files-same w.state.files v.state.files goes.files;
  cleared = goes.cleared;
  last = goes.work.last;
  switch = goes.work.switch;
}

goes-calm : (r : Result (TurnState State) Counter) (w : TurnState State) → IfOk r (Goes w) → IfOk r (CalmFrom w)
goes-calm r w goes = IfOk-weaker r (Goes w) (CalmFrom w) goes (calm-goes w)

calm-takes : (w v : TurnState State) → IsIdle w.state.workspaces → Takes w v → CalmFrom w v
calm-takes w v idle takes =
    let c : Calms w v = takes.calms idle in
    record { files = files-same w.state.files v.state.files c.files; cleared = c.cleared; last = c.last; switch = c.switch }

-- ---- documents

-- the files come to these
files-calm : (w : TurnState State) (work : TurnState SessionFiles → Result (TurnState SessionFiles) Counter)
    → IfOk (work (record { state = w.state.files; out = w.out })) (λ v. Brings w.state.files v.state) → IfOk (at_files work w) (CalmFrom w)
files-calm w work brings =
    IfOk-within files_in with_files work w (CalmFrom w)
    (IfOk-weaker _ (λ (v : TurnState SessionFiles). Brings w.state.files v.state) _ brings
    (λ v x. record { files = x; cleared = refl; last = refl; switch = refl }))

become-brings : (files : SessionFiles) (r : Result SessionFiles Counter) (u : TurnState SessionFiles) → IfOk r (Brings files)
    → IfOk (become r u) (λ v. Brings files v.state)
become-brings files (Ok now) u brings = brings
become-brings files (Err counter) u brings = tt

logged-same : (path : List ℕ) (w : TurnState SessionFiles) → Brings w.state (logged UnexpectedChange path w).state
unfolding logged ordered
logged-same path w = files-same w.state w.state refl

changed-calm : (o : Result (List ℕ) UrlFault) (change : DidChange) (w : TurnState State) → IsSound w.state.files → OpenAreNumbered w.state.files
    → IfOk (document_changed_at o change w) (CalmFrom w)
unfolding document_changed_at changed_document edited_document
changed-calm (Err fault) change w sound numbered = calm-goes w _ (goes-logged _ change.uri w)
changed-calm (Ok path) change w sound numbered =
    files-calm w (changed_document (columns_in w.state.client.settings) path change.version change.changes) (by (is_open path w.state.files) refl)
  where
    files : TurnState SessionFiles
    files = record { state = w.state.files; out = w.out }

    columns : PositionEncoding
    columns = columns_in w.state.client.settings

    by : (b : Bool) → is_open path w.state.files ≡ b
        → IfOk (if b then edited_document columns path change.version change.changes files else Ok (logged UnexpectedChange path files))
        (λ v. Brings w.state.files v.state)
    by true there =
        become-brings w.state.files (after_editing columns path change.version change.changes w.state.files) _
        (editing-brings columns path change.version change.changes w.state.files sound numbered there)
    by false closed = logged-same path files

opened-calm : (o : Result (List ℕ) UrlFault) (document : DidOpen) (w : TurnState State) → is_ok o ≡ false → IfOk (document_opened_at o document w) (CalmFrom w)
unfolding document_opened_at
opened-calm (Err fault) document w none = calm-goes w _ (goes-logged _ document.uri w)
opened-calm (Ok path) document w none = true-false none

closed-calm : (o : Result (List ℕ) UrlFault) (uri : List ℕ) (w : TurnState State) → is_ok o ≡ false → IfOk (document_closed_at o uri w) (CalmFrom w)
unfolding document_closed_at
closed-calm (Err fault) uri w none = calm-goes w _ (goes-logged _ uri w)
closed-calm (Ok path) uri w none = true-false none

told-calm : (notice : Notice) (w : TurnState State) → opens_or_closes (Some notice) ≡ false → IsSound w.state.files → OpenAreNumbered w.state.files
    → IfOk (told notice w) (CalmFrom w)
unfolding told
told-calm (notices.DidOpen document) w none sound numbered = opened-calm (path_of document.uri) document w none
told-calm (notices.DidChange change) w none sound numbered = changed-calm (path_of change.uri) change w sound numbered
told-calm (notices.DidClose uri) w none sound numbered = closed-calm (path_of uri) uri w none
told-calm (notices.CancelRequest id) w none sound numbered = goes-calm (told (notices.CancelRequest id) w) w (told-goes (notices.CancelRequest id) refl w)
told-calm (notices.DidSave uri) w none sound numbered = goes-calm (told (notices.DidSave uri) w) w (told-goes (notices.DidSave uri) refl w)
told-calm notices.DidChangeConfiguration w none sound numbered =
    goes-calm (told notices.DidChangeConfiguration w) w (told-goes notices.DidChangeConfiguration refl w)
told-calm (notices.DidChangeWorkspaceFolders added removed) w none sound numbered =
    goes-calm (told (notices.DidChangeWorkspaceFolders added removed) w) w (told-goes (notices.DidChangeWorkspaceFolders added removed) refl w)
told-calm (notices.DidChangeWatchedFiles urls) w none sound numbered =
    goes-calm (told (notices.DidChangeWatchedFiles urls) w) w (told-goes (notices.DidChangeWatchedFiles urls) refl w)
told-calm (notices.CancelProgress token) w none sound numbered =
    goes-calm (told (notices.CancelProgress token) w) w (told-goes (notices.CancelProgress token) refl w)
told-calm notices.CancelFlycheck w none sound numbered = goes-calm (told notices.CancelFlycheck w) w (told-goes notices.CancelFlycheck refl w)
told-calm notices.ClearFlycheck w none sound numbered = goes-calm (told notices.ClearFlycheck w) w (told-goes notices.ClearFlycheck refl w)
told-calm (notices.RunFlycheck uri) w none sound numbered = goes-calm (told (notices.RunFlycheck uri) w) w (told-goes (notices.RunFlycheck uri) refl w)
told-calm notices.AbortRunTest w none sound numbered = goes-calm (told notices.AbortRunTest w) w (told-goes notices.AbortRunTest refl w)

noticed-calm : (heard : Heard) (method : List ℕ) (w : TurnState State) → opens_or_closes (told_by heard) ≡ false → IsSound w.state.files
    → OpenAreNumbered w.state.files → IfOk (noticed heard method w) (CalmFrom w)
unfolding noticed
noticed-calm (Told notice) method w none sound numbered = told-calm notice w none sound numbered
noticed-calm Malformed method w none sound numbered = calm-goes w _ (goes-logged _ method w)
noticed-calm Unhandled method w none sound numbered = calm-goes w _ (goes-logged _ method w)
noticed-calm Silent method w none sound numbered = calm-none w.state

-- ---- other events

brought-calm : (messages : List LoaderMsg) (w : TurnState State) → IfOk (loader_brought messages w) (CalmFrom w)
unfolding loaded
brought-calm messages w =
    let files : TurnState SessionFiles = record { state = w.state.files; out = w.out } in
    IfOk-and_then (at_files (loaded messages) w) _ (CalmFrom w) (CalmFrom w)
    (files-calm w (loaded messages) (become-brings w.state.files (after_messages messages w.state.files) files (messages-bring messages w.state.files)))
    (λ v calm.
    let asks : Asks v.state.desk.turns v.state.workspaces (renewed_if (bring_files messages) v.state.desk.turns v.state.workspaces) =
    renewed-asks (bring_files messages) v.state.desk.turns v.state.workspaces in
    record { files = calm.files; cleared = calm.cleared; last = asks.last ∙ calm.last; switch = asks.switch ∙ calm.switch })

loader-calm : (messages : List LoaderMsg) (w : TurnState State) → IfOk (loader_taken messages w) (CalmFrom w)
loader-calm messages w =
    let told : List Telling = scans_told w.state.client.settings.root_path messages in
    IfOk-and_then (loader_brought messages w) (tellings_told told) (CalmFrom w) (CalmFrom w) (brought-calm messages w)
    (λ v calm. IfOk-weaker (tellings_told told v) (LeavesAll v) (CalmFrom w) (told-leave told v)
    (λ u leaves. record {
      files = subst (Brings w.state.files) (sym leaves.files) calm.files;
      cleared = leaves.cleared ∙ calm.cleared;
      last = ap (λ (ws : Workspaces). ws.fetches.queue.last) leaves.workspaces ∙ calm.last;
      switch = ap (λ (ws : Workspaces). ws.switch_wanted) leaves.workspaces ∙ calm.switch;
    }))

pub event-calm : (meaning : Meaning) (event : Event) (w : TurnState State) → came_or_went (Next event) ≡ false → IsIdle w.state.workspaces
    → IsSound w.state.files → OpenAreNumbered w.state.files → IfOk (happened meaning event w) (CalmFrom w)
unfolding happened received
event-calm meaning (Lsp (RequestMessage r)) w none idle sound numbered = goes-calm (request_taken meaning r w) w (request-goes meaning r w)
event-calm meaning (Lsp (NotificationMessage n)) w none idle sound numbered = noticed-calm (heard_of n) n.method w none sound numbered
event-calm meaning (Lsp (ResponseMessage r)) w none idle sound numbered = goes-calm (answer_taken r w) w (answer-goes r w)
event-calm meaning (Task batch) w none idle sound numbered =
    IfOk-weaker (batched meaning batch w) (Takes w) (CalmFrom w) (batch-takes meaning batch w) (λ v takes. calm-takes w v idle takes)
event-calm meaning (Vfs messages) w none idle sound numbered = loader-calm messages w
event-calm meaning (Deferred tasks) w none idle sound numbered = goes-calm (all_resumed tasks w) w (all-resume tasks w)
event-calm meaning (News news) w none idle sound numbered = goes-calm (news_taken news w) w (news-goes news w)
event-calm meaning (Timer number) w none idle sound numbered = record {
  files = files-same w.state.files w.state.files refl;
  cleared = refl;
  last = fire-last number w.state.workspaces.fetches;
  switch = refl;
}
