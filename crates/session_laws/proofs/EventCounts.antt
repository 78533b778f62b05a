-- An event gives no more numbers than it may need.
use Rattle.std.proofs.Common.{◌≡◌, ℕ, ◌+◌, ◌-◌, ◌^◌, ◌≤◌, List, [], ◌∷◌, ◌++◌, length, Bool, true, false, refl, sym, ap, ◌∙◌, subst, arith}
use Rattle.std.proofs.lemmas.List.{length-append}
use Rattle.std.proofs.lemmas.Result.{IfOk-at_ok}
use Rattle.std.specs.FinMap as map
use Rattle.std.specs.Prelude.{◌==◌, Err, IfErr, IfOk, if◌then◌else◌, is_some, ltb, None, Ok, Option, Result, Some}
use Rattle.docs_vfs.specs.FileUrls.{path_of}
use Rattle.docs_vfs.specs.declared.file_url.UrlFault.{UrlFault}
use Rattle.lsp_frame.specs.Outgoing.{Outgoing, number_of, without}
use Rattle.lsp_frame.specs.declared.message.Notification.{Notification}
use Rattle.lsp_frame.specs.declared.message.Request.{Request}
use Rattle.lsp_frame.specs.declared.message.Message.TheVariants as lsp
use Rattle.lsp_frame.specs.declared.message.RequestId.{RequestId}
use Rattle.lsp_frame.specs.declared.message.Response.{Response}
use Rattle.project_model.specs.declared.crates.CrateData.{CrateData}
use Rattle.session_port.specs.Jobs.{Jobs, fitting_job, jobs_after}
use Rattle.session_port.specs.Written.{Written}
use Rattle.session_port.specs.TurnState.{TurnState, and_then, logged, ordered, written}
use Rattle.session_port.specs.declared.command.LogCode.{LogCode}
use Rattle.session_port.specs.declared.command.LogCode.TheVariants.{BadPath, MalformedNotification, UnhandledNotification}
use Rattle.op_board.specs.Acts.{step as after_act}
use Rattle.op_board.specs.Acts.Act.{ForgetsAll}
use Rattle.session_port.specs.declared.news.FlycheckMsg.TheVariants as checks
use Rattle.session_files.specs.Folds.{has_changed}
use Rattle.session_port.specs.declared.event.TaskMsg.{TaskMsg}
use Rattle.session_port.specs.declared.fault.Counter.{Counter}
use Rattle.session_port.specs.declared.fault.Counter.TheVariants as counters
use Rattle.notify.specs.declared.notice.DidChange.{DidChange}
use Rattle.notify.specs.declared.notice.DidOpen.{DidOpen}
use Rattle.notify.specs.declared.notice.Notice.{Notice}
use Rattle.notify.specs.declared.notice.Notice.TheVariants as notices
use Rattle.notify.specs.declared.outgo.Outgo.TheVariants.{Configuration}
use Rattle.client.specs.Client.{Client}
use Rattle.client.specs.Folds.{asked_after}
use Rattle.client.specs.Steps.{answered, folders_changed, logged_if, notification_of}
use Rattle.client.specs.declared.handler.ReqHandler.{ReqHandler}
use Rattle.client.specs.declared.handler.ReqHandler.TheVariants.{Settings}
use Rattle.desk.specs.Desk.{Desk}
use Rattle.desk.specs.WorkEnds.{work_ended}
use Rattle.desk.specs.declared.state.ends.WorkEnd.{WorkEnd}
use Rattle.desk.specs.declared.state.ends.WorkEnd.TheVariants.{Fetched, Built, Checked, Loaded, Diagnosed, Tested}
use Rattle.session_laws.proofs.WorkEnds.{work_kept, work-versions}
use Rattle.session_laws.proofs.Announcing.{Announces, announcing, tests-run-owe}
use Rattle.session_laws.proofs.TellingCounts.{aborted-does, all-cancelled-does, cancelled-does, checked_if-does, job-few}
use Rattle.session_laws.proofs.TellingCounts.{renewed_if-does, requests_among, restarted_if-does, scans-few, tests-run-does}
use Rattle.session_laws.proofs.TellingCounts.{told-at-most}
use Rattle.session_model.specs.Diagnosing.{lists_cleared, lists_given, tests_told}
use Rattle.session_model.specs.OwnJobs.{checks_among_tasks, checks_back}
use Rattle.desk.specs.Meaning.{Meaning}
use Rattle.desk.specs.Reactions.{Reaction, cancel_row, message_row, request_row}
use Rattle.desk.specs.Steps.{cancelled, counted as counted_at_desk, requested, result_taken as taken_at_desk}
use Rattle.desk_laws.specs.Settled.{Settled}
use Rattle.desk_laws.proofs.Refusing.{TooMany, message-errs, request-errs}
use Rattle.desk_laws.proofs.Settling.{cancel-settles, message-settles, message-turns, request-settles, request-turns}
use Rattle.session_files.specs.SessionFiles.{SessionFiles}
use Rattle.session_files.specs.Steps.{changed_document, closed_document, edited_document, loaded, opened_document}
use Rattle.workspaces.specs.Fetches.{fire}
use Rattle.session_model.specs.Building.{build_kept, request_told}
use Rattle.session_model.specs.Checking.{check_kept}
use Rattle.session_model.specs.Crates.{is_unknown}
use Rattle.session_model.specs.Fetching.{fetch_kept, folders_told_if, settings_told, with_fetches}
use Rattle.session_model.specs.Hearing.{heard_of, told_by}
use Rattle.session_model.specs.Inputs.{batch_of, cancelled_by, file_count, files_among, files_noticed, message_count, news_count}
use Rattle.session_model.specs.Loading.{crates_loaded, load_kept}
use Rattle.session_model.specs.Machine.{all_resumed, answer_taken, request_taken, asked_for_settings, at_client, at_desk, at_files, at_workspaces}
use Rattle.session_model.specs.Machine.{batched, build_taken, document_changed_at}
use Rattle.session_model.specs.Machine.{client_in}
use Rattle.session_model.specs.Machine.{document_closed_at, turn_counted, crates_arrived, desk_in}
use Rattle.session_model.specs.Machine.{end_taken}
use Rattle.session_model.specs.Machine.{work_taken}
use Rattle.session_model.specs.Machine.{fetch_taken, files_changed}
use Rattle.session_model.specs.Machine.{checks_renewed_if, checks_restarted_if, checks_run, crates_settled_if}
use Rattle.session_model.specs.Machine.{file_checked_at, file_checked_if, loader_brought, request_answered, tellings_told}
use Rattle.session_model.specs.Machine.{tests_run, work_followed}
use Rattle.session_model.specs.Restarting.{checks_all_on_save, checks_on_save, checks_workspaces, has_other_checks, restart_checks}
use Rattle.session_model.specs.Testing.{run_asked_by}
use Rattle.activities.specs.Scanning.{scans_told}
use Rattle.activities.specs.Work.{job_told}
use Rattle.activities.specs.declared.activities.Activities.{Activities}
use Rattle.activities.specs.declared.telling.Telling.{Telling}
use Rattle.session_model.specs.Machine.{folders_taken, happened, load_taken}
use Rattle.session_model.specs.Machine.{macros_taken, noticed, document_opened_at, received}
use Rattle.session_model.specs.Machine.{at_board}
use Rattle.session_model.specs.Machine.{news_taken}
use Rattle.session_model.specs.Machine.{save_noted, saved_at, saved_file}
use Rattle.session_model.specs.Machine.{step}
use Rattle.session_model.specs.Machine.{message_taken, event_taken, timed, told}
use Rattle.session_model.specs.Machine.{with_client, with_desk, with_files}
use Rattle.session_model.specs.RunEnds.{AreTooMany, Numbers}
use Rattle.session_model.specs.Rows.{batch_row, machine_after, notice_row, place_after_message, turn_row, scene_within, turn_begun}
use Rattle.session_model.specs.Run.{turn_start}
use Rattle.session_model.specs.Saving.{path_saved}
use Rattle.session_model.specs.State.{State, columns_in, excludes_in, goes_by_folders, scene_of}
use Rattle.session_model.specs.Timing.{bring_files, renewed_if}
use Rattle.session_model.specs.declared.heard.Heard.{Heard}
use Rattle.session_model.specs.declared.heard.Heard.TheVariants.{Told, Malformed, Unhandled, Silent}
use Rattle.session_model.specs.declared.input.Event.{Event}
use Rattle.session_model.specs.declared.input.Event.TheVariants.{Lsp, Task, Vfs, Deferred, News, Timer}
use Rattle.session_model.specs.declared.input.Input.{Input}
use Rattle.session_model.specs.declared.input.Input.TheVariants.{Next}
use Rattle.session_laws.specs.Invariant.{place_of_state}
use Rattle.session_laws.proofs.Batches.{DoesAtDesk, Stays, logged_if-same, or-is, place_now, rest-is, scene-is, settles-within, stays-on, stays-same}
use Rattle.session_laws.proofs.Counting.{AtMost, Counts, ahead, at-most, become-counts, both, counts-behind, counts-if, counts-more, counts-then}
use Rattle.session_laws.proofs.Counting.{counts-within, editing-counts, files, given, given-workspaces, gives-desk, gives-on}
use Rattle.session_laws.proofs.Counting.{gives-same, held, jobs, many-more, messages-count, next-counts, none, none-more}
use Rattle.session_laws.proofs.Counting.{opening-counts, request-counts, requests, revisions, state_ahead, state_at, turns}
use Rattle.session_laws.proofs.Events.{announced_state, files-same, notification_input, noted-same}
use Rattle.session_laws.proofs.Processing.{at}
use Rattle.session_laws.proofs.Rows.{counted-is}
use Rattle.session_laws.proofs.Running.{fire-runs, folders-runs, renewed-runs, request-runs, save-runs, settings-runs}
use Rattle.session_laws.proofs.Telling.{answered-does, folders-do}
use Rattle.session_laws.proofs.PartCounts.{Does, Gives, arrived-does, does-same, does-then, files-do, from-same, held-workspaces, news-does, none-does}
use Rattle.session_laws.proofs.PartCounts.{none-then, resumed-do, same-state, settled_if-does, then-same}

-- ---- jobs for requests

few-turns : (given before now more : ℕ) → before ≡ given → now ≡ before → now ≤ given + more
few-turns given before now more p q = omega (arith, p, q)

few-jobs : (given before now n most : ℕ) → before ≡ given → now ≡ before + n → n ≤ most → now ≤ given + most
few-jobs given before now n most p q le = omega (arith, p, q, le)

many-jobs : (given before n most : ℕ) → before ≡ given → n ≤ most → 2 ^ 64 ≤ before + n → 2 ^ 64 ≤ given + most
many-jobs given before n most p le h = omega (arith, p, le, h)

-- what the desk does hands over these jobs
desk-counts : (needs : Numbers) (s : State) (request : Option Request) (w : TurnState Desk) (done : Reaction) (out : Jobs) (r : Result (TurnState Desk) Counter)
    → w.state.turns ≡ s.desk.turns
    → w.state.last_job ≡ s.desk.last_job → length done.jobs ≤ needs.jobs → IfOk r (λ v. Settled request w v done out) → IfErr r (TooMany w.state.last_job done)
    → Counts (λ (v : TurnState Desk). with_desk v.state s) needs (given s) r
desk-counts needs s request w done out (Ok v) turns last_job few settles errs =
    gives-desk needs s v.state (few-turns s.desk.turns w.state.turns v.state.turns needs.turns turns settles.turns)
    (few-jobs s.desk.last_job w.state.last_job v.state.last_job (length done.jobs) needs.jobs last_job settles.last_job few)
desk-counts needs s request w done out (Err counter) turns last_job few settles errs =
    subst (AreTooMany (given s) needs) (sym errs.0) (many-jobs s.desk.last_job w.state.last_job (length done.jobs) needs.jobs last_job few errs.1)

answered-request-does : (meaning : Meaning) (s : State) (r : Request) (needs : Numbers) (asked : Outgoing ReqHandler) (activities : Activities) (out : Written)
    → length (turn_row meaning (Next (Lsp (lsp.Request r))) (place_of_state s)).jobs ≤ needs.jobs
    → (let w : TurnState State = record { state = announced_state s asked activities; out = out } in Does needs w (request_answered meaning r w))
answered-request-does meaning s r needs asked activities out few =
    let w : TurnState State = record { state = announced_state s asked activities; out = out } in
    let done = request_row meaning (scene_of s) w.state.desk (s.desk.turns + 1) r in
    let same = request-turns meaning (scene_of s) s.desk (s.desk.turns + 1) (s.desk.turns + 1) r in
    then-same needs w (at_desk (requested meaning (scene_of s) r) w) (at_workspaces (request_told r w.state.desk))
    (λ v. held-workspaces v.state (request_told r w.state.desk v.state.workspaces) (request-runs 0 r w.state.desk v.state.workspaces).versions)
    (counts-within state_ahead needs (held w.state) desk_in with_desk (requested meaning (scene_of s) r) w
    (desk-counts needs (ahead w.state) (Some r) (at w) done s.desk.jobs (requested meaning (scene_of s) r (at w)) refl refl
    (subst (λ (d : Reaction). length d.jobs ≤ needs.jobs) (sym same) few) (request-settles meaning (scene_of s) r (at w))
    (request-errs meaning (scene_of s) r (at w))))

-- behind a run of tests that it asks for
request-does : (meaning : Meaning) (s : State) (r : Request) (needs : Numbers)
    → length (turn_row meaning (Next (Lsp (lsp.Request r))) (place_of_state s)).jobs ≤ needs.jobs
    → Does needs (turn_begun s) (request_taken meaning r (turn_begun s))
request-does meaning s r needs few =
    let w : TurnState State = turn_begun s in
    let run = run_asked_by r w.state.desk in
    none-then needs w (tests_run run w) (request_answered meaning r) (tests-run-does run w)
    (λ v is. let a : Announces w v = IfOk-at_ok (Announces w) is (tests-run-owe Announces announcing run w) in
    subst (λ (t : State). Does needs (record { state = t; out = v.out }) (request_answered meaning r (record { state = t; out = v.out }))) (sym a.state)
    (answered-request-does meaning s r needs v.state.client.asked v.state.activities v.out few))

-- ---- batches

-- ends of jobs give no number
logged-same : (code : LogCode) (text : Option (List ℕ)) (w : TurnState State) → held (logged_if code text w).state ≡ held w.state
logged-same code text w = same-state w.state (logged_if code text w).state (logged_if-same code text w)

kept-same : (end : WorkEnd) (w : TurnState State) → held (at_workspaces (work_kept end) w).state ≡ held w.state
kept-same end w = held-workspaces w.state (work_kept end w.state.workspaces) (work-versions end w.state.workspaces)

-- but that of a load of macros may bring crate data into the world
work-does : (end : WorkEnd) (w : TurnState State) → Does (revisions 1) w (work_taken end w)
unfolding work_taken fetch_taken build_taken load_taken macros_taken written
work-does (Fetched found) w = does-same (revisions 1) w (fetch_taken found w)
    (logged-same _ _ (at_board (after_act ForgetsAll) (at_workspaces (fetch_kept found) w)) ∙ kept-same (Fetched found) w)
work-does (Built made) w = does-same (revisions 1) w (build_taken made w) (logged-same _ _ (at_workspaces (build_kept made) w) ∙ kept-same (Built made) w)
work-does (Checked roots) w = does-same (revisions 1) w (at_workspaces (check_kept roots) w) (kept-same (Checked roots) w)
work-does (Diagnosed generation pass lists) w = does-same (revisions 1) w (at_board (lists_given generation pass lists) w) refl
work-does (Tested files tests) w =
    does-same (revisions 1) w (written (notification_of (tests_told w.state.files.table files tests)) w) refl
work-does (Loaded told) w =
    let l : TurnState State = at_workspaces (load_kept told) w in
    let crates : Option CrateData = crates_loaded told w.state.workspaces in
    from-same (revisions 1) w l (and_then (crates_arrived crates l) (crates_settled_if (is_some crates))) (kept-same (Loaded told) w)
    (does-then (revisions 1) none l (crates_arrived crates l) (crates_settled_if (is_some crates)) (arrived-does crates l)
    (settled_if-does (is_some crates)))

end-does : (end : Option WorkEnd) (w : TurnState State) → Does (revisions 1) w (end_taken end w)
unfolding end_taken
end-does None w = does-same (revisions 1) w w refl
end-does (Some end) w = work-does end w

-- so many jobs, and a revision and a request for each of so many messages
abbrev for_messages : ℕ → ℕ → Numbers
for_messages jobs count = record none { jobs = jobs; requests = count; revisions = count }

-- what is told of the work that ends begins one work at most
followed-work-does : (end : Option WorkEnd) (told : List Telling) (w : TurnState State) → requests_among told ≤ 1
    → Does (both (revisions 1) (requests 1)) w (work_followed end told w)
unfolding work_followed
followed-work-does end told w few =
    does-then (revisions 1) (requests 1) w (end_taken end w) (tellings_told told) (end-does end w) (λ v. told-at-most 1 told v few)

plus-none : (n : ℕ) → n + 0 ≡ n
plus-none n = omega arith

taken-does : (meaning : Meaning) (turns : ℕ) (message : TaskMsg) (w : TurnState State)
    → Does (for_messages (length (message_row meaning (scene_of w.state) (record w.state.desk { turns = turns }) message).jobs) 1) w
    (message_taken meaning message w)
unfolding message_taken
taken-does meaning turns message w =
    let scene = scene_of w.state in
    let done = message_row meaning scene (record w.state.desk { turns = turns }) message in
    let plain = message_row meaning scene w.state.desk message in
    let same : length plain.jobs ≡ length done.jobs = ap (λ (d : Reaction). length d.jobs) (sym (message-turns meaning scene w.state.desk turns message)) in
    let out = w.state.desk.jobs in
    subst (λ n. Does (for_messages n 1) w (message_taken meaning message w)) (plus-none (length done.jobs))
    (does-then (jobs (length done.jobs)) (both (revisions 1) (requests 1)) w (at_desk (taken_at_desk meaning scene message) w) _
    (counts-within state_ahead (jobs (length done.jobs)) (held w.state) desk_in with_desk (taken_at_desk meaning scene message) w
    (desk-counts (jobs (length done.jobs)) (ahead w.state) None (at w) plain (jobs_after message out) (taken_at_desk meaning scene message (at w)) refl refl
    (omega (arith, same))
    (message-settles meaning scene message (at w)) (message-errs meaning scene message (at w))))
    (λ v. followed-work-does (work_ended message out) (job_told message.body (fitting_job message out)) v (job-few message.body (fitting_job message out))))

batch-does : (meaning : Meaning) (turns : ℕ) (s : State) (batch : List TaskMsg) (w : TurnState State) → Stays s w.state
    → Does (for_messages (length (batch_row meaning batch w (place_now s turns w)).jobs) (length batch)) w (batched meaning batch w)
batch-does meaning turns s [] w h = does-same (for_messages 0 0) w w refl
batch-does meaning turns s (m ∷ ms) w h =
    let place = place_now s turns w in
    let done = message_row meaning (scene_within place w) place.desk m in
    let rest = batch_row meaning ms (machine_after meaning m w) (place_after_message m done place) in
    let first : Numbers = for_messages (length done.jobs) 1 in
    let others : Numbers = for_messages (length rest.jobs) (length ms) in
    counts-more state_ahead (both first others) (for_messages (length (done.jobs ++ rest.jobs)) (length (m ∷ ms))) (held w.state) (batched meaning (m ∷ ms) w)
    (at-most _ _ (omega arith) (omega (arith, length-append done.jobs rest.jobs)) (omega arith) (omega arith) (omega arith) (omega arith) (omega arith))
    (counts-then state_ahead state_ahead first others (held w.state) (message_taken meaning m w) (batched meaning ms)
    (subst (λ scene. Does (for_messages (length (message_row meaning scene place.desk m).jobs) 1) w (message_taken meaning m w)) (sym (scene-is s turns w h))
    (taken-does meaning turns m w))
    (λ v is. let a : DoesAtDesk w v done (jobs_after m w.state.desk.jobs) =
    IfOk-at_ok (λ v. DoesAtDesk w v done (jobs_after m w.state.desk.jobs)) is (settles-within meaning s turns m w h) in
    let next : machine_after meaning m w ≡ v = IfOk-at_ok (λ v. machine_after meaning m w ≡ v) is (or-is w (message_taken meaning m w)) in
    subst (λ (r : Reaction). Does (for_messages (length r.jobs) (length ms)) v (batched meaning ms v)) (rest-is meaning s turns m ms w v done next a)
    (batch-does meaning turns s ms v (stays-on s w.state v.state h a.stays))))

-- ---- notifications

-- what an event gives
abbrev pub for_event : Meaning → State → Input → Numbers
for_event meaning s input = record none {
  jobs = length (turn_row meaning input (place_of_state s)).jobs + length (checks_back s input);
  requests = message_count input + 1;
  revisions = length (batch_of input);
  files = file_count input;
}

gives-none : (needs : Numbers) (w v : TurnState State) → given v.state ≡ given w.state → Gives needs w (Ok v)
gives-none needs w v same = gives-same needs (given w.state) (given v.state) same

-- files that it brings
event-files : (meaning : Meaning) (s : State) (input : Input) (n : ℕ) (work : TurnState SessionFiles → Result (TurnState SessionFiles) Counter)
    → file_count input ≡ n
    → Counts (λ (v : TurnState SessionFiles). with_files v.state (turn_begun s).state) (files n) (given (turn_begun s).state)
    (work (record { state = s.files; out = (turn_begun s).out }))
    → Gives (for_event meaning s input) (turn_begun s) (at_files work (turn_begun s))
event-files meaning s input n work count h =
    counts-more state_at (files n) (for_event meaning s input) (given (turn_begun s).state) (at_files work (turn_begun s))
    (at-most _ _ (omega arith) (omega arith) (omega arith) (omega arith) (omega (arith, count)) (omega arith) (omega arith))
    (files-do (files n) (turn_begun s) work h)

opened-does : (meaning : Meaning) (s : State) (n : Notification) (document : DidOpen) (o : Result (List ℕ) UrlFault) → file_count (notification_input n) ≡ 1
    → Gives (for_event meaning s (notification_input n)) (turn_begun s) (document_opened_at o document (turn_begun s))
unfolding document_opened_at opened_document logged ordered
opened-does meaning s n document (Err fault) one = gives-none (for_event meaning s (notification_input n)) (turn_begun s)
    (logged BadPath document.uri (turn_begun s)) refl
opened-does meaning s n document (Ok path) one =
    let excludes = excludes_in s.client.settings in
    event-files meaning s (notification_input n) 1 (opened_document excludes path document.version document.text) one
    (become-counts (λ now. with_files now (turn_begun s).state) (files 1) (given (turn_begun s).state) _ _
    (opening-counts excludes path document.version document.text (turn_begun s).state))

edited-cases : (needs before : Numbers) (s : State) (b : Bool) (r : Result (TurnState SessionFiles) Counter) (w : TurnState SessionFiles)
    → Counts (λ (v : TurnState SessionFiles). with_files v.state s) needs before r
    → Counts (λ (v : TurnState SessionFiles). with_files v.state s) needs before (Ok w)
    → Counts (λ (v : TurnState SessionFiles). with_files v.state s) needs before (if b then r else Ok w)
edited-cases needs before s b r w p q = counts-if (λ (v : TurnState SessionFiles). with_files v.state s) needs before b r (Ok w) p q

changed-does : (meaning : Meaning) (s : State) (n : Notification) (change : DidChange) (o : Result (List ℕ) UrlFault) → file_count (notification_input n) ≡ 1
    → Gives (for_event meaning s (notification_input n)) (turn_begun s) (document_changed_at o change (turn_begun s))
unfolding document_changed_at changed_document edited_document logged ordered
changed-does meaning s n change (Err fault) one = gives-none (for_event meaning s (notification_input n)) (turn_begun s)
    (logged BadPath change.uri (turn_begun s)) refl
changed-does meaning s n change (Ok path) one =
    let columns = columns_in s.client.settings in
    let t : State = (turn_begun s).state in
    event-files meaning s (notification_input n) 1 (changed_document columns path change.version change.changes) one
    (edited-cases (files 1) (given t) t _ _ _
    (become-counts (λ now. with_files now t) (files 1) (given t) _ _ (editing-counts columns path change.version change.changes t))
    (gives-same (files 1) (given t) (given t) refl))

closed-does : (needs : Numbers) (s : State) (uri : List ℕ) (o : Result (List ℕ) UrlFault) → Gives needs (turn_begun s) (document_closed_at o uri (turn_begun s))
unfolding document_closed_at closed_document logged ordered
closed-does needs s uri (Err fault) = gives-none needs (turn_begun s) (logged BadPath uri (turn_begun s)) refl
closed-does needs s uri (Ok path) = files-do needs (at_board (lists_cleared (map.get s.files.ids path)) (turn_begun s)) (λ f. Ok (closed_document path f))
    (gives-same needs (given (turn_begun s).state) (given (turn_begun s).state) refl)

-- from here on an event gives no more than these and the revision of files that have changed behind it
abbrev EventDoes : Numbers → TurnState State → Result (TurnState State) Counter → Type 0
EventDoes needs w r = Counts state_ahead (both needs (revisions 1)) (given w.state) r

one-pending : (b : Bool) (revision most : ℕ) → revision ≤ most → revision + (if b then 1 else 0) ≤ most + 1
one-pending true revision most le = omega (arith, le)
one-pending false revision most le = omega (arith, le)

pub more-held : (s : State) → AtMost (held s) (both (given s) (revisions 1))
more-held s =
    at-most _ _ (omega arith) (omega arith) (omega arith) (one-pending (has_changed s.files) s.files.host.revision s.files.host.revision (omega arith))
    (omega arith) (omega arith) (omega arith)

-- where it changes files
event-gives : (needs : Numbers) (w : TurnState State) (r : Result (TurnState State) Counter) → Gives needs w r → EventDoes needs w r
event-gives needs w (Ok v) h = gives-on needs (revisions 1) (given w.state) (given v.state) (held v.state) h (more-held v.state)
event-gives needs w (Err counter) h = many-more needs (both needs (revisions 1)) (given w.state) counter (none-more needs (revisions 1)) h

-- where it doesn't
event-holds : (needs : Numbers) (w : TurnState State) (r : Result (TurnState State) Counter) → Does needs w r → EventDoes needs w r
event-holds needs w r h =
    counts-more state_ahead (both (revisions 1) needs) (both needs (revisions 1)) (given w.state) r
    (at-most _ _ (omega arith) (omega arith) (omega arith) (omega arith) (omega arith) (omega arith) (omega arith))
    (counts-behind state_ahead (revisions 1) needs (given w.state) (held w.state) r (more-held w.state) h)

saved-file-same : (path : List ℕ) (w : TurnState State) → held (saved_file path w).state ≡ held w.state
saved-file-same path w =
    let noted : TurnState State = save_noted (is_unknown w.state.files.ids path) path w in
    held-workspaces noted.state (path_saved w.state.client.settings w.state.files path noted.state.workspaces)
    (save-runs 0 w.state.client.settings w.state.files path noted.state.workspaces).versions
    ∙ same-state w.state noted.state (noted-same (is_unknown w.state.files.ids path) path w)

saved-does : (needs : Numbers) (s : State) (uri : List ℕ) (o : Result (List ℕ) UrlFault) → Does needs (turn_begun s) (saved_at o uri (turn_begun s))
unfolding saved_at logged ordered
saved-does needs s uri (Err fault) =
    let v : TurnState State = logged BadPath uri (turn_begun s) in
    let wanted : Bool = checks_all_on_save s.client.settings in
    from-same needs (turn_begun s) v (checks_restarted_if wanted v) refl (none-does needs v (checks_restarted_if wanted v) (restarted_if-does wanted v))
saved-does needs s uri (Ok path) =
    let v : TurnState State = saved_file path (turn_begun s) in
    let wanted : Bool = checks_on_save s.client.settings s.files.host.world.roots path in
    from-same needs (turn_begun s) v (file_checked_if wanted path v) (saved-file-same path (turn_begun s))
    (none-does needs v (file_checked_if wanted path v) (checked_if-does wanted path v))

checked-at-does : (uri : List ℕ) (o : Result (List ℕ) UrlFault) (w : TurnState State) → Does none w (file_checked_at uri o w)
unfolding file_checked_at logged ordered
checked-at-does uri (Err fault) w = does-same none w (logged BadPath uri w) refl
checked-at-does uri (Ok path) w = checked_if-does true path w

checks-run-does : (uri : Option (List ℕ)) (w : TurnState State) → Does none w (checks_run uri w)
unfolding checks_run
checks-run-does None w = restarted_if-does (checks_workspaces w.state.client.settings) w
checks-run-does (Some uri) w = checked-at-does uri (path_of uri) w

-- a step of what is agreed with the client that gives no number
client-does : (needs : Numbers) (w : TurnState State) (step : TurnState Client → TurnState Client)
    → (step (record { state = w.state.client; out = w.out })).state.asked.given ≡ w.state.client.asked.given
    → Does needs w (at_client (λ c. Ok (step c)) w)
client-does needs w step same =
    counts-within state_ahead needs (held w.state) client_in with_client (λ c. Ok (step c)) w
    (gives-same needs (held w.state) _ (ap (λ n. record (held w.state) { requests = n }) same))

folders-does : (needs : Numbers) (s : State) (added removed : List (List ℕ)) → Does needs (turn_begun s) (folders_taken added removed (turn_begun s))
folders-does needs s added removed =
    let client : TurnState Client = record { state = s.client; out = (turn_begun s).out } in
    then-same needs (turn_begun s) (at_client (λ c. Ok (folders_changed added removed c)) (turn_begun s))
    (at_workspaces (folders_told_if (goes_by_folders s.client.settings)))
    (λ v. held-workspaces v.state (folders_told_if (goes_by_folders s.client.settings) v.state.workspaces)
    (folders-runs 0 (goes_by_folders s.client.settings) v.state.workspaces).versions)
    (client-does needs (turn_begun s) (folders_changed added removed) (ap (λ (c : Client). c.asked.given) (folders-do added removed client).is))

without-same : {K : Type 0} (o : Option ℕ) (request_taken : Outgoing K) → (without o request_taken).given ≡ request_taken.given
without-same None request_taken = refl
without-same (Some number) request_taken = refl

after-same : (o : Option RequestId) (request_taken : Outgoing ReqHandler) → (asked_after o request_taken).given ≡ request_taken.given
after-same None request_taken = refl
after-same (Some id) request_taken = without-same (number_of id) request_taken

answer-does : (needs : Numbers) (s : State) (r : Response) → Does needs (turn_begun s) (answer_taken r (turn_begun s))
answer-does needs s r =
    let w : TurnState State = turn_begun s in
    let client : TurnState Client = record { state = s.client; out = w.out } in
    let step : TurnState State → TurnState State = λ v. at_workspaces (settings_told s.client.settings v.state.client.settings) v in
    let next : TurnState State → Result (TurnState State) Counter = λ v. checks_renewed_if (has_other_checks s.client.settings v.state.client.settings) (step v) in
    none-then needs w (at_client (λ c. Ok (answered r c)) w) next
    (client-does none w (answered r) (ap (λ (c : Client). c.asked.given) (answered-does r client).is ∙ after-same r.id s.client.asked))
    (λ v is. from-same needs v (step v) (next v)
    (held-workspaces v.state (settings_told s.client.settings v.state.client.settings v.state.workspaces)
    (settings-runs 0 s.client.settings v.state.client.settings v.state.workspaces).versions)
    (none-does needs (step v) (next v) (renewed_if-does (has_other_checks s.client.settings v.state.client.settings) (step v))))

cancel-does : (meaning : Meaning) (s : State) (n : Notification) (id : RequestId) → told_by (heard_of n) ≡ Some (notices.CancelRequest id)
    → Does (for_event meaning s (notification_input n)) (turn_begun s) (at_desk (λ d. Ok (cancelled id d)) (turn_begun s))
cancel-does meaning s n id heard =
    let needs = for_event meaning s (notification_input n) in
    let w : TurnState State = turn_begun s in
    let settles = cancel-settles id (at w) in
    let jobs : length (turn_row meaning (notification_input n) (place_of_state s)).jobs ≡ length (cancel_row id s.desk).jobs =
    ap (λ o. length (notice_row (cancelled_by o) s.desk).jobs) heard in
    counts-within state_ahead needs (held w.state) desk_in with_desk (λ d. Ok (cancelled id d)) w
    (gives-desk needs (ahead w.state) (cancelled id (at w)).state
    (few-turns w.state.desk.turns w.state.desk.turns (cancelled id (at w)).state.turns needs.turns refl settles.turns)
    (few-jobs w.state.desk.last_job w.state.desk.last_job (cancelled id (at w)).state.last_job (length (cancel_row id s.desk).jobs) needs.jobs refl settles.last_job
    (omega (arith, jobs))))

-- where a notice changes no files
told-holds : (meaning : Meaning) (s : State) (n : Notification) (notice : Notice)
    → Does (for_event meaning s (notification_input n)) (turn_begun s) (told notice (turn_begun s))
    → EventDoes (for_event meaning s (notification_input n)) (turn_begun s) (told notice (turn_begun s))
told-holds meaning s n notice h = event-holds (for_event meaning s (notification_input n)) (turn_begun s) (told notice (turn_begun s)) h

-- where it changes some
told-gives : (meaning : Meaning) (s : State) (n : Notification) (notice : Notice)
    → Gives (for_event meaning s (notification_input n)) (turn_begun s) (told notice (turn_begun s))
    → EventDoes (for_event meaning s (notification_input n)) (turn_begun s) (told notice (turn_begun s))
told-gives meaning s n notice h = event-gives (for_event meaning s (notification_input n)) (turn_begun s) (told notice (turn_begun s)) h

-- where a notification gives nothing
holds-same : (meaning : Meaning) (s : State) (n : Notification) (v : TurnState State) → held v.state ≡ held (turn_begun s).state
    → EventDoes (for_event meaning s (notification_input n)) (turn_begun s) (Ok v)
holds-same meaning s n v same =
    let needs = for_event meaning s (notification_input n) in
    event-holds needs (turn_begun s) (Ok v) (does-same needs (turn_begun s) v same)

-- where it gives nothing
told-none-does : (meaning : Meaning) (s : State) (n : Notification) (notice : Notice) → Does none (turn_begun s) (told notice (turn_begun s))
    → EventDoes (for_event meaning s (notification_input n)) (turn_begun s) (told notice (turn_begun s))
told-none-does meaning s n notice h =
    let needs = for_event meaning s (notification_input n) in
    told-holds meaning s n notice (none-does needs (turn_begun s) (told notice (turn_begun s)) h)

told-does : (meaning : Meaning) (s : State) (n : Notification) (notice : Notice) → told_by (heard_of n) ≡ Some notice
    → EventDoes (for_event meaning s (notification_input n)) (turn_begun s) (told notice (turn_begun s))
unfolding told
told-does meaning s n (notices.CancelRequest id) heard = told-holds meaning s n (notices.CancelRequest id) (cancel-does meaning s n id heard)
told-does meaning s n (notices.CancelProgress token) heard =
    told-none-does meaning s n (notices.CancelProgress token) (cancelled-does token s.activities.checks (turn_begun s))
told-does meaning s n (notices.DidOpen document) heard =
    told-gives meaning s n (notices.DidOpen document) (opened-does meaning s n document (path_of document.uri) (ap files_noticed heard))
told-does meaning s n (notices.DidChange change) heard =
    told-gives meaning s n (notices.DidChange change) (changed-does meaning s n change (path_of change.uri) (ap files_noticed heard))
told-does meaning s n (notices.DidClose uri) heard =
    told-gives meaning s n (notices.DidClose uri) (closed-does (for_event meaning s (notification_input n)) s uri (path_of uri))
told-does meaning s n (notices.DidSave uri) heard =
    told-holds meaning s n (notices.DidSave uri) (saved-does (for_event meaning s (notification_input n)) s uri (path_of uri))
told-does meaning s n notices.DidChangeConfiguration heard =
    told-holds meaning s n notices.DidChangeConfiguration
    (counts-more state_ahead (requests 1) (for_event meaning s (notification_input n)) (held (turn_begun s).state) (at_client asked_for_settings (turn_begun s))
    (at-most _ _ (omega arith) (omega arith) (omega arith) (omega arith) (omega arith) (omega arith) (omega arith))
    (request-counts Configuration Settings (turn_begun s)))
told-does meaning s n (notices.DidChangeWorkspaceFolders added removed) heard =
    told-holds meaning s n (notices.DidChangeWorkspaceFolders added removed)
    (folders-does (for_event meaning s (notification_input n)) s added removed)
told-does meaning s n (notices.DidChangeWatchedFiles changes) heard =
    let v : TurnState State = files_changed map.empty changes (turn_begun s) in
    let wanted : Bool = restart_checks s.client.settings changes in
    told-none-does meaning s n (notices.DidChangeWatchedFiles changes)
    (from-same none (turn_begun s) v (checks_restarted_if wanted v) (same-state (turn_begun s).state v.state (files-same map.empty changes (turn_begun s)))
    (restarted_if-does wanted v))
told-does meaning s n notices.CancelFlycheck heard =
    told-none-does meaning s n notices.CancelFlycheck (all-cancelled-does s.activities.checks (turn_begun s))
told-does meaning s n notices.ClearFlycheck heard = holds-same meaning s n (at_board (after_act ForgetsAll) (turn_begun s)) refl
told-does meaning s n (notices.RunFlycheck uri) heard = told-none-does meaning s n (notices.RunFlycheck uri) (checks-run-does uri (turn_begun s))
told-does meaning s n notices.AbortRunTest heard =
    told-none-does meaning s n notices.AbortRunTest (aborted-does s.activities.tests (turn_begun s))

heard-does : (meaning : Meaning) (s : State) (n : Notification) (heard : Heard) → heard_of n ≡ heard
    → EventDoes (for_event meaning s (notification_input n)) (turn_begun s) (noticed heard n.method (turn_begun s))
unfolding noticed logged ordered
heard-does meaning s n (Told notice) is = told-does meaning s n notice (ap told_by is)
heard-does meaning s n Malformed is = holds-same meaning s n (logged MalformedNotification n.method (turn_begun s)) refl
heard-does meaning s n Unhandled is = holds-same meaning s n (logged UnhandledNotification n.method (turn_begun s)) refl
heard-does meaning s n Silent is = holds-same meaning s n (turn_begun s) refl

-- ---- events

gives-then : (needs : Numbers) (w : TurnState State) (r : Result (TurnState State) Counter) (f : TurnState State → TurnState State)
    → ((v : TurnState State) → given (f v).state ≡ given v.state)
    → Gives needs w r → Gives needs w (and_then r (λ v. Ok (f v)))
gives-then needs w (Ok v) f same h = subst (λ (n : Numbers). AtMost n (both (given w.state) needs)) (sym (same v)) h
gives-then needs w (Err counter) f same h = h

event-does : (meaning : Meaning) (s : State) (event : Event)
    → EventDoes (for_event meaning s (Next event)) (turn_begun s) (happened meaning event (turn_begun s))
unfolding happened received loaded
event-does meaning s (Lsp (lsp.Request r)) =
    event-holds (for_event meaning s (Next (Lsp (lsp.Request r)))) (turn_begun s) (happened meaning (Lsp (lsp.Request r)) (turn_begun s))
    (request-does meaning s r (for_event meaning s (Next (Lsp (lsp.Request r)))) (omega arith))
event-does meaning s (Lsp (lsp.Notification n)) = heard-does meaning s n (heard_of n) refl
event-does meaning s (Lsp (lsp.Response r)) =
    event-holds (for_event meaning s (Next (Lsp (lsp.Response r)))) (turn_begun s) (happened meaning (Lsp (lsp.Response r)) (turn_begun s))
    (answer-does (for_event meaning s (Next (Lsp (lsp.Response r)))) s r)
event-does meaning s (Task batch) =
    let w : TurnState State = turn_begun s in
    let input : Input = Next (Task batch) in
    event-holds (for_event meaning s (Next (Task batch))) (turn_begun s) (happened meaning (Task batch) (turn_begun s))
    (counts-more state_ahead (for_messages (length (turn_row meaning input (place_of_state s)).jobs) (length batch)) (for_event meaning s input) (held w.state)
    (batched meaning batch w)
    (at-most _ _ (omega arith) (omega arith) (omega arith) (omega arith) (omega arith) (omega arith) (omega arith))
    (batch-does meaning s.desk.turns s batch w (stays-same s (turn_begun s).state refl refl (record { present = refl; version = refl }))))
event-does meaning s (Vfs messages) =
    let w : TurnState State = turn_begun s in
    let input : Input = Next (Vfs messages) in
    let told : List Telling = scans_told s.client.settings.root_path messages in
    let count : ℕ = files_among messages in
    counts-more state_ahead (both (both (files count) (revisions 1)) (requests (length messages))) (both (for_event meaning s input) (revisions 1))
    (given w.state) (happened meaning (Vfs messages) w)
    (at-most _ _ (omega arith) (omega arith) (omega arith) (omega arith) (omega arith) (omega arith) (omega arith))
    (counts-then state_ahead state_ahead (both (files count) (revisions 1)) (requests (length messages)) (given w.state) (loader_brought messages w)
    (tellings_told told)
    (event-gives (files count) w (loader_brought messages w)
    (gives-then (files count) w (at_files (loaded messages) w) (λ v. at_workspaces (renewed_if (bring_files messages) v.state.desk.turns) v)
    (λ v. given-workspaces v.state (renewed_if (bring_files messages) v.state.desk.turns v.state.workspaces)
    (renewed-runs (bring_files messages) v.state.desk.turns v.state.workspaces).versions)
    (files-do (files count) w (loaded messages)
    (become-counts (λ now. with_files now w.state) (files count) (given w.state) _ _ (messages-count messages w.state)))))
    (λ v is. told-at-most (length messages) told v (scans-few s.client.settings.root_path messages)))
event-does meaning s (Deferred tasks) =
    let w : TurnState State = turn_begun s in
    let input : Input = Next (Deferred tasks) in
    event-holds (for_event meaning s (Next (Deferred tasks))) (turn_begun s) (happened meaning (Deferred tasks) (turn_begun s))
    (counts-more state_ahead (jobs (length (checks_among_tasks s tasks))) (for_event meaning s input) (held w.state) (all_resumed tasks w)
    (at-most _ _ (omega arith) (omega arith) (omega arith) (omega arith) (omega arith) (omega arith) (omega arith))
    (resumed-do s tasks w))
event-does meaning s (News news) =
    event-holds (for_event meaning s (Next (News news))) (turn_begun s) (happened meaning (News news) (turn_begun s))
    (counts-more state_ahead (requests (news_count news + 1)) (for_event meaning s (Next (News news))) (held (turn_begun s).state) (news_taken news (turn_begun s))
    (at-most _ _ (omega arith) (omega arith) (omega arith) (omega arith) (omega arith) (omega arith) (omega arith))
    (news-does news (turn_begun s)))
event-does meaning s (Timer ticket) =
    event-holds (for_event meaning s (Next (Timer ticket))) (turn_begun s) (happened meaning (Timer ticket) (turn_begun s))
    (does-same (for_event meaning s (Next (Timer ticket))) (turn_begun s) (timed ticket (turn_begun s))
    (held-workspaces (turn_begun s).state (with_fetches (fire ticket) s.workspaces) (fire-runs 0 ticket s.workspaces).versions))

counted-does : (s : State) → Gives (turns 1) (turn_start s) (turn_counted (turn_start s))
unfolding turn_counted counted_at_desk
counted-does s =
    counts-within state_at (turns 1) (given s) desk_in with_desk counted_at_desk (turn_start s)
    (next-counts (λ (v : TurnState Desk). with_desk v.state s) (turns 1) (given s) s.desk.turns counters.Turns _ (ltb s.desk.turns (2 ^ 64 - 1)) refl
    (gives-desk (turns 1) s (record s.desk { turns = s.desk.turns + 1 }) (omega arith) (omega arith)) (λ last. omega (arith, last)))

-- the turn is counted, and its event is taken in
abbrev pub for_event_part : Meaning → State → Event → Numbers
for_event_part meaning s event = both (turns 1) (both (for_event meaning s (Next event)) (revisions 1))

pub taken_in-does : (meaning : Meaning) (s : State) (event : Event) → Counts state_ahead (for_event_part meaning s event) (given s)
    (event_taken meaning event (turn_start s))
unfolding event_taken
taken_in-does meaning s event =
    let needs = for_event meaning s (Next event) in
    counts-then state_at state_ahead (turns 1) (both needs (revisions 1)) (given s) (turn_counted (turn_start s)) (happened meaning event) (counted-does s)
    (λ v is. let same : v ≡ turn_begun s = IfOk-at_ok (λ v. v ≡ turn_begun s) is (counted-is s) in
    subst (λ w. EventDoes needs w (happened meaning event w)) (sym same) (event-does meaning s event))
