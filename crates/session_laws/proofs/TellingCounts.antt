-- How many requests it takes to tell of work beside the jobs: one for each work that begins, and one for an error with a button.
use Rattle.std.proofs.Common.{◌≡◌, ℕ, ◌+◌, ◌-◌, ◌≤◌, List, [], ◌∷◌, ◌++◌, length, Bool, true, false, refl, sym, ap, ◌∙◌, subst, arith}
use Rattle.std.specs.Prelude.{◌==◌, Option, None, Some, Result, Ok, Err, is_some, map, if◌then◌else◌}
use Rattle.lsp_frame.specs.Outgoing.{number_limit}
use Rattle.lsp_frame.specs.declared.message.Message.{Message}
use Rattle.method_table.specs.declared.request.RunTest.{RunTest}
use Rattle.ra_config.specs.Config.{ConfigData}
use Rattle.serde_json.specs.Data.{Data}
use Rattle.serde_json.specs.Find.{as_str}
use Rattle.session_port.specs.Jobs.{fitting_job}
use Rattle.session_port.specs.Kinds.{job_group}
use Rattle.session_port.specs.TurnState.{TurnState, and_then, logged, ordered, written}
use Rattle.session_port.specs.declared.command.Command.TheVariants as orders
use Rattle.session_port.specs.declared.event.LoaderMsg.{LoaderMsg}
use Rattle.session_port.specs.declared.event.LoaderMsg.TheVariants.{Changed, Loaded}
use Rattle.session_port.specs.declared.event.LoaderMsg.TheVariants.{Progress as IsAt}
use Rattle.session_port.specs.declared.event.LoadingProgress.TheVariants as steps
use Rattle.session_port.specs.declared.event.TaskBody.{TaskBody}
use Rattle.session_port.specs.declared.event.TaskBody.TheVariants as bodies
use Rattle.session_port.specs.declared.fault.Counter.{Counter}
use Rattle.session_port.specs.declared.job.Job.{Job}
use Rattle.session_port.specs.declared.news.CheckProgress.{CheckProgress}
use Rattle.session_port.specs.declared.news.CheckProgress.TheVariants as progress
use Rattle.session_port.specs.declared.news.TestMsg.{TestMsg}
use Rattle.session_port.specs.declared.news.TestOutput.{TestOutput}
use Rattle.session_port.specs.declared.news.TestOutput.TheVariants as outputs
use Rattle.activities.specs.Announced.{Announced}
use Rattle.activities.specs.CheckRuns.{those_of}
use Rattle.activities.specs.Checks.{Checks, all_cancelled, all_restarted, cancel, cancelled_at, cancelled_by, checks_set, file_restarted, is_set, progressed, restart}
use Rattle.activities.specs.CheckNames.{id_in}
use Rattle.activities.specs.Settings.{runs_once}
use Rattle.activities.specs.Scanning.{message_told, scans_behind, scans_told, told_again}
use Rattle.activities.specs.TestRun.{Tests, aborted, finished, output_told, run_asked, stops, test_told}
use Rattle.activities.specs.Work.{body_told, graph_told, job_told, title_of, told_under}
use Rattle.activities.specs.declared.telling.Telling.{Telling}
use Rattle.activities.specs.declared.telling.Telling.TheVariants as tellings
use Rattle.client.specs.Client.{Client}
use Rattle.client.specs.Steps.{asked_for, notification_of}
use Rattle.client.specs.Progress.{progress_reported, progress_shown, shows_progress, token_of, token_shown}
use Rattle.client.specs.declared.handler.ReqHandler.TheVariants.{Ignore, OpenLogs}
use Rattle.client.specs.declared.work.WorkProgress.{WorkProgress}
use Rattle.notify.specs.declared.outgo.MessageKind.TheVariants.{Error}
use Rattle.notify.specs.declared.outgo.Outgo.{Outgo}
use Rattle.notify.specs.declared.outgo.Outgo.TheVariants as messages
use Rattle.notify.specs.declared.outgo.Outgo.TheVariants.{CreateProgress, ShowMessage, ShowMessageRequest}
use Rattle.notify.specs.declared.progress.Progress.{Progress}
use Rattle.notify.specs.declared.progress.Progress.TheVariants as states
use Rattle.session_files.specs.SessionFiles.{SessionFiles}
use Rattle.session_model.specs.Crates.{loaded_as}
use Rattle.session_model.specs.Machine.{at_client, checks_announced, checks_done, checks_renewed_if, checks_restarted_if, client_in, file_checked_if, telling_told}
use Rattle.session_model.specs.Machine.{tellings_told, tests_announced, tests_run, text_shown, with_activities, with_client}
use Rattle.session_model.specs.Restarting.{cancelled_by_text, cancelled_under, restart_at_rest, restarts_for}
use Rattle.session_model.specs.RunEnds.{Numbers}
use Rattle.session_model.specs.State.{State}
use Rattle.session_model.specs.Telling.{begun_work, ended_work, reported_work}
use Rattle.session_model.specs.declared.facts.FactsBefore.{FactsBefore}
use Rattle.session_laws.proofs.Counting.{AtMost, Counts, ahead, asked-cases, at-most, both, counts-if, counts-more, counts-then, counts-within, given, gives-same}
use Rattle.session_laws.proofs.Counting.{held, none, request-counts, requests, state_ahead}

-- from here on a step gives no more numbers than these
abbrev Does : Numbers → TurnState State → Result (TurnState State) Counter → Type 0
Does needs w r = Counts state_ahead needs (held w.state) r

does-same : (needs : Numbers) (w v : TurnState State) → held v.state ≡ held w.state → Does needs w (Ok v)
does-same needs w v same = gives-same needs (held w.state) (held v.state) same

-- ---- progress

abbrev requests_at : Progress → ℕ
requests_at states.Begin = 1
requests_at states.Report = 0
requests_at states.End = 0

token-asked : (message : Outgo) (s : State) (w : TurnState Client) → w.state ≡ s.client
    → Counts (λ (v : TurnState Client). with_client v.state s) (requests 1) (given s) (asked_for message Ignore w)
unfolding asked_for
token-asked message s w its = asked-cases message Ignore s w (w.state.asked.given == number_limit) its refl

token-counts : (state : Progress) (token : List ℕ) (s : State) (w : TurnState Client) → w.state ≡ s.client
    → Counts (λ (v : TurnState Client). with_client v.state s) (requests (requests_at state)) (given s) (token_shown state token w)
unfolding token_shown
token-counts states.Begin token s w its = token-asked (CreateProgress token) s w its
token-counts states.Report token s w its = gives-same (requests 0) (given s) _ (ap (λ (c : Client). given (with_client c s)) its)
token-counts states.End token s w its = gives-same (requests 0) (given s) _ (ap (λ (c : Client). given (with_client c s)) its)

written-counts : (needs n : Numbers) (s : State) (message : Message) (r : Result (TurnState Client) Counter)
    → Counts (λ (v : TurnState Client). with_client v.state s) needs n r
    → Counts (λ (v : TurnState Client). with_client v.state s) needs n (and_then r (λ v. Ok (written message v)))
unfolding written
written-counts needs n s message (Ok v) h = h
written-counts needs n s message (Err counter) h = h

progress-does : (work : WorkProgress) (w : TurnState State) → Does (requests (requests_at work.state)) w (at_client (progress_reported work) w)
unfolding progress_reported progress_shown
progress-does work w =
    let s : State = ahead w.state in
    let client : TurnState Client = record { state = w.state.client; out = w.out } in
    let needs : Numbers = requests (requests_at work.state) in
    counts-within state_ahead needs (held w.state) client_in with_client (progress_reported work) w
    (counts-if (λ (v : TurnState Client). with_client v.state s) needs (held w.state) (shows_progress w.state.client.settings) (progress_shown work client)
    (Ok client)
    (written-counts needs (held w.state) s _ (token_shown work.state (token_of work) client) (token-counts work.state (token_of work) s client refl))
    (gives-same needs (held w.state) (held w.state) refl))

-- ---- tellings

abbrev requests_in : Telling → ℕ
requests_in (tellings.Begin title token message percentage) = 1
requests_in (tellings.ShowError message button) = if button then 1 else 0
requests_in other = 0

abbrev pub requests_among : List Telling → ℕ
requests_among [] = 0
requests_among (telling ∷ later) = requests_in telling + requests_among later

error-does : (message : List ℕ) (button : Bool) (w : TurnState State) → Does (requests (if button then 1 else 0)) w (text_shown button (Some (message, Error)) w)
unfolding text_shown written
error-does message true w = request-counts (ShowMessageRequest message Error) OpenLogs w
error-does message false w = does-same (requests 0) w (written (notification_of (ShowMessage message Error)) w) refl

telling-does : (telling : Telling) (w : TurnState State) → Does (requests (requests_in telling)) w (telling_told telling w)
unfolding telling_told written logged ordered
telling-does (tellings.Begin title token message percentage) w = progress-does (begun_work title token message percentage) w
telling-does (tellings.Report title token message percentage) w = progress-does (reported_work title token message percentage) w
telling-does (tellings.End title token message) w = progress-does (ended_work title token message) w
telling-does (tellings.ShowError message button) w = error-does message button w
telling-does (tellings.TestState state id) w = does-same (requests 0) w (written (notification_of (messages.TestState state id)) w) refl
telling-does tellings.EndRunTest w = does-same (requests 0) w (written (notification_of messages.EndRunTest) w) refl
telling-does (tellings.AppendOutput text) w = does-same (requests 0) w (written (notification_of (messages.AppendOutput text)) w) refl
telling-does (tellings.Log code text) w = does-same (requests 0) w (logged code text w) refl
telling-does (tellings.SetChecks set) w = does-same (requests 0) w (ordered (orders.SetChecks set) w) refl
telling-does (tellings.RestartCheck id scope) w = does-same (requests 0) w (ordered (orders.RestartCheck id scope) w) refl
telling-does (tellings.CancelCheck id) w = does-same (requests 0) w (ordered (orders.CancelCheck id) w) refl
telling-does (tellings.RunTest include exclude) w = does-same (requests 0) w (ordered (orders.RunTest include exclude) w) refl
telling-does tellings.StopTest w = does-same (requests 0) w (ordered orders.StopTest w) refl
telling-does (tellings.Discover arg) w = does-same (requests 0) w (ordered (orders.Discover arg) w) refl

told-does : (told : List Telling) (w : TurnState State) → Does (requests (requests_among told)) w (tellings_told told w)
unfolding tellings_told
told-does [] w = does-same (requests 0) w w refl
told-does (telling ∷ later) w =
    counts-then state_ahead state_ahead (requests (requests_in telling)) (requests (requests_among later)) (held w.state) (telling_told telling w)
    (tellings_told later) (telling-does telling w) (λ v is. told-does later v)

-- where they take at most so many
pub told-at-most : (n : ℕ) (told : List Telling) (w : TurnState State) → requests_among told ≤ n → Does (requests n) w (tellings_told told w)
told-at-most n told w few =
    counts-more state_ahead (requests (requests_among told)) (requests n) (held w.state) (tellings_told told w)
    (at-most _ _ (omega arith) (omega arith) few (omega arith) (omega arith) (omega arith) (omega arith)) (told-does told w)

pub told-none : (told : List Telling) (w : TurnState State) → requests_among told ≡ 0 → Does none w (tellings_told told w)
told-none told w same = told-at-most 0 told w (omega (arith, same))

requests-append : (first later : List Telling) → requests_among (first ++ later) ≡ requests_among first + requests_among later
requests-append [] later = omega arith
requests-append (telling ∷ first) later = let rest = requests-append first later in omega (arith, rest)

-- ---- jobs, crate data and the loader

body-few : (title : List ℕ) (body : TaskBody) → requests_among (body_told title body) ≤ 1
body-few title bodies.Begin = omega arith
body-few title (bodies.Report text) = omega arith
body-few title (bodies.PrimeReport done total crates) = omega arith
body-few title (bodies.Final result) = omega arith

under-few : (title : Option (List ℕ)) (body : TaskBody) → requests_among (told_under title body) ≤ 1
under-few None body = omega arith
under-few (Some title) body = body-few title body

pub job-few : (body : TaskBody) (job : Option Job) → requests_among (job_told body job) ≤ 1
job-few body None = omega arith
job-few body (Some job) = under-few (title_of (job_group job.kind)) body

pub graph-few : requests_among graph_told ≤ 1
graph-few = omega arith

-- what a message of a loader tells begins one work at most, and its last report none
record FewScans (told : List Telling × Option Telling) : Type 0 where
  now : requests_among told.0 ≤ 1
  again : requests_among (told_again told.1) ≡ 0

message-few : (root : List ℕ) (message : LoaderMsg) (last : Option Telling) → requests_among (told_again last) ≡ 0 → FewScans (message_told root message last)
message-few root (Changed files) last none = record { now = omega arith; again = none }
message-few root (Loaded files) last none = record { now = omega arith; again = none }
message-few root (IsAt total steps.Started dir version) last none = record { now = omega arith; again = none }
message-few root (IsAt total (steps.Progress done) dir version) None none = record { now = omega arith; again = refl }
message-few root (IsAt total (steps.Progress done) dir version) (Some last) none = record { now = omega arith; again = refl }
message-few root (IsAt total steps.Finished dir version) last none = record { now = omega arith; again = refl }

behind-few : (root : List ℕ) (messages : List LoaderMsg) (last : Option Telling) → requests_among (told_again last) ≡ 0
    → requests_among (scans_behind root last messages) ≤ length messages
behind-few root [] last none = omega (arith, none)
behind-few root (message ∷ messages) last none =
    let first = message_told root message last in
    let few = message-few root message last none in
    let rest = behind-few root messages first.1 few.again in
    let all = requests-append first.0 (scans_behind root first.1 messages) in
    omega (arith, all, few.now, rest)

pub scans-few : (root : List ℕ) (messages : List LoaderMsg) → requests_among (scans_told root messages) ≤ length messages
scans-few root messages = behind-few root messages None refl

-- ---- checks

restarts-none : (set : List (ℕ × List ℕ)) → requests_among (map restart set) ≡ 0
restarts-none [] = refl
restarts-none (check ∷ set) = let rest = restarts-none set in omega (arith, rest)

cancels-none : (set : List (ℕ × List ℕ)) → requests_among (map cancel set) ≡ 0
cancels-none [] = refl
cancels-none (check ∷ set) = let rest = cancels-none set in omega (arith, rest)

none-if : (b : Bool) (first second : List Telling) → requests_among first ≡ 0 → requests_among second ≡ 0
    → requests_among (if b then first else second) ≡ 0
none-if true first second p q = p
none-if false first second p q = q

those-none : (b : Bool) (first : List Telling) → requests_among first ≡ 0 → requests_among (those_of (if b then Some first else None)) ≡ 0
those-none true first p = p
those-none false first p = refl

restarts-for-none : (settings : ConfigData) (files : SessionFiles) (path : List ℕ) (checks : Checks)
    → requests_among (restarts_for settings files path checks) ≡ 0
restarts-for-none settings files path checks =
    none-if (is_some (loaded_as files.ids path)) (those_of (file_restarted settings path checks)) []
    (those-none (runs_once settings) _ (none-if (is_set 0 checks) _ [] refl refl)) refl

cancelled-none : (id : Option ℕ) (checks : Checks) → requests_among (cancelled_by id checks) ≡ 0
cancelled-none None checks = refl
cancelled-none (Some id) checks = none-if (is_set id checks) _ [] refl refl

cancelled-text-none : (token : Option (List ℕ)) (checks : Checks) → requests_among (cancelled_by_text token checks) ≡ 0
cancelled-text-none None checks = refl
cancelled-text-none (Some token) checks = cancelled-none (id_in token) checks

pub cancelled-does : (token : Data) (checks : Checks) (w : TurnState State) → Does none w (tellings_told (cancelled_under token checks) w)
cancelled-does token checks w = told-none (cancelled_under token checks) w (cancelled-text-none (as_str token) checks)

pub all-cancelled-does : (checks : Checks) (w : TurnState State) → Does none w (tellings_told (all_cancelled checks) w)
all-cancelled-does checks w = told-none (all_cancelled checks) w (cancels-none checks.set)

pub renewed_if-does : (b : Bool) (w : TurnState State) → Does none w (checks_renewed_if b w)
unfolding checks_renewed_if checks_announced
renewed_if-does false w = does-same none w w refl
renewed_if-does true w =
    let told = checks_set w.state.client.settings w.state.workspaces.present w.state.activities.checks in
    told-none told.tellings (record w { state = with_activities (record w.state.activities { checks = told.state }) w.state }) refl

pub restarted_if-does : (b : Bool) (w : TurnState State) → Does none w (checks_restarted_if b w)
unfolding checks_restarted_if
restarted_if-does false w = does-same none w w refl
restarted_if-does true w = told-none (all_restarted w.state.activities.checks) w (restarts-none w.state.activities.checks.set)

pub checked_if-does : (b : Bool) (path : List ℕ) (w : TurnState State) → Does none w (file_checked_if b path w)
unfolding file_checked_if
checked_if-does false path w = does-same none w w refl
checked_if-does true path w =
    told-none (restarts_for w.state.client.settings w.state.files path w.state.activities.checks) w
    (restarts-for-none w.state.client.settings w.state.files path w.state.activities.checks)

pub checks-done-does : (facts : FactsBefore) (w : TurnState State) → Does none w (checks_done facts w)
unfolding checks_done
checks-done-does facts w =
    counts-then state_ahead state_ahead none none (held w.state) (checks_renewed_if facts.crates w) _ (renewed_if-does facts.crates w)
    (λ v is. restarted_if-does (restart_at_rest facts.quiescent v.state.client.settings v.state.files v.state.workspaces) v)

progressed-few : (settings : ConfigData) (id : ℕ) (step : CheckProgress) (checks : Checks) → requests_among (progressed settings id step checks).tellings ≤ 1
progressed-few settings id (progress.DidStart command) checks = omega arith
progressed-few settings id (progress.DidCheckCrate name) checks = omega arith
progressed-few settings id progress.DidCancel checks = omega arith
progressed-few settings id (progress.DidFailToRestart reason) checks = omega arith
progressed-few settings id (progress.DidFinish result) checks = omega arith

pub progressed-does : (settings : ConfigData) (id : ℕ) (step : CheckProgress) (w : TurnState State)
    → Does (requests 1) w (checks_announced (progressed settings id step w.state.activities.checks) w)
unfolding checks_announced
progressed-does settings id step w =
    let told = progressed settings id step w.state.activities.checks in
    told-at-most 1 told.tellings (record w { state = with_activities (record w.state.activities { checks = told.state }) w.state })
    (progressed-few settings id step w.state.activities.checks)

-- ---- the run of tests

tests-does : (told : Announced Tests) (w : TurnState State) → requests_among told.tellings ≡ 0 → Does none w (tests_announced told w)
unfolding tests_announced
tests-does told w same = told-none told.tellings (record w { state = with_activities (record w.state.activities { tests = told.state }) w.state }) same

stops-none : (active : Bool) (later : List Telling) → requests_among later ≡ 0
    → requests_among ((if active then tellings.EndRunTest ∷ tellings.StopTest ∷ [] else []) ++ later) ≡ 0
stops-none true later same = omega (arith, same)
stops-none false later same = same

pub aborted-does : (tests : Tests) (w : TurnState State) → Does none w (tests_announced (aborted tests) w)
aborted-does tests w = tests-does (aborted tests) w (none-if tests.active _ [] refl refl)

run-none : (b : Bool) (first second : Announced Tests) → requests_among first.tellings ≡ 0 → requests_among second.tellings ≡ 0
    → requests_among (if b then first else second).tellings ≡ 0
run-none true first second p q = p
run-none false first second p q = q

pub tests-run-does : (run : Option RunTest) (w : TurnState State) → Does none w (tests_run run w)
unfolding tests_run
tests-run-does None w = does-same none w w refl
tests-run-does (Some run) w =
    let tests = w.state.activities.tests in
    let count : ℕ = length w.state.workspaces.present in
    tests-does (run_asked run.include run.exclude count tests) w
    (run-none (count == 0) (aborted tests) _ (none-if tests.active _ [] refl refl) (stops-none tests.active _ refl))

output-none : (target : List ℕ) (output : TestOutput) (tests : Tests) → requests_among (output_told target output tests).tellings ≡ 0
output-none target (outputs.Test name state) tests = refl
output-none target outputs.Suite tests = refl
output-none target outputs.Finished tests = run-none ((tests.remaining - 1) == 0) _ _ refl refl
output-none target (outputs.Custom text) tests = refl

pub test-does : (message : TestMsg) (w : TurnState State) → Does none w (tests_announced (test_told message w.state.activities.tests) w)
test-does message w =
    tests-does (test_told message w.state.activities.tests) w (output-none message.target message.output w.state.activities.tests)
