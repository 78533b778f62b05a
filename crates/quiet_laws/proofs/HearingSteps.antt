-- What the steps of an event do to what is heard, and, where nothing is in progress, to what a batch goes by.
use Rattle.std.proofs.Common.{◌≡◌, ℕ, List, [], ◌∷◌, ◌++◌, Bool, true, false, refl, sym, ap, ◌∙◌, subst, inl, append-nil}
use Rattle.std.specs.Prelude.{Option, None, Some, is_some, Result, Ok, Err, IfOk, if◌then◌else◌}
use Rattle.std.specs.FinMap as map
use Rattle.std.specs.List.{cons_option}
use Rattle.std.proofs.lemmas.List.Elements.{filter_map-append}
use Rattle.plain.specs.Texts.{text_cmp}
use Rattle.docs_vfs.specs.FileUrls.{path_of}
use Rattle.docs_vfs.specs.declared.file_kinds.FileExcluded.{FileExcluded}
use Rattle.docs_vfs.specs.declared.file_kinds.FileExcluded.TheVariants.{No, Yes}
use Rattle.docs_vfs.specs.declared.file_kinds.FileId.{FileId}
use Rattle.docs_vfs.specs.declared.file_url.UrlFault.{UrlFault}
use Rattle.lsp_types.specs.declared.diagnostic.Diagnostic.{Diagnostic}
use Rattle.serde_json.specs.Data.{Data}
use Rattle.op_board.specs.Acts.{Act, gives, step as after_act, steps as after_acts}
use Rattle.op_board.specs.Acts.Act.{Gives}
use Rattle.op_board.specs.Board.{Board, Lists, with_lists}
use Rattle.op_board.specs.Marked.{Marked}
use Rattle.op_board.specs.declared.diagnostic.NativePass.{NativePass}
use Rattle.op_board.specs.declared.diagnostic.NativePass.TheVariants.{Syntax, Semantic}
use Rattle.session_port.specs.declared.command.Command.{Command}
use Rattle.session_port.specs.declared.command.Command.TheVariants.{Invalidate}
use Rattle.session_port.specs.declared.command.LogCode.{LogCode}
use Rattle.session_port.specs.declared.command.LogCode.TheVariants.{BadPath, CheckUnknownFile, UnknownSave}
use Rattle.session_port.specs.declared.fault.Counter.{Counter}
use Rattle.session_port.specs.declared.news.FlycheckMsg.{FlycheckMsg}
use Rattle.session_port.specs.declared.news.FlycheckMsg.TheVariants as checks
use Rattle.session_port.specs.TurnState.{TurnState, and_then, logged, ordered}
use Rattle.client.specs.Steps.{logged_if}
use Rattle.desk.specs.Desk.{Desk}
use Rattle.desk_laws.proofs.Results.{IfOk-and_then, IfOk-weaker, IfOk-within}
use Rattle.workspaces.specs.Workspaces.{Loads, Workspaces}
use Rattle.session_model.specs.Crates.{is_unknown}
use Rattle.session_model.specs.Diagnosing.{lists_given, outdated_act}
use Rattle.session_model.specs.Machine.{at_desk, check_told, checks_told, desk_in, file_changed, files_changed, found_added, news_taken}
use Rattle.session_model.specs.Machine.{save_noted, saved_at, with_board, with_desk, with_workspaces}
use Rattle.session_model.specs.Saving.{path_saved}
use Rattle.session_model.specs.State.{State}
use Rattle.session_model.specs.declared.input.News.{News as NewsData}
use Rattle.session_model.specs.declared.input.News.TheVariants as told_news
use Rattle.session_laws.proofs.Passing.{Passes}
use Rattle.session_laws.proofs.Running.{versions_of}
use Rattle.session_files.specs.SessionFiles.{SessionFiles}
use Rattle.quiet_laws.specs.Heard.{timer_of}
use Rattle.session_model.specs.Machine.{checks_announced, checks_heard, checks_restarted_if, checks_run, file_checked_at, file_checked_if, saved_file}
use Rattle.session_model.specs.Machine.{tests_announced, tests_heard}
use Rattle.session_model.specs.Restarting.{checks_all_on_save, checks_on_save, checks_workspaces}
use Rattle.activities.specs.Checks.{progressed}
use Rattle.activities.specs.TestRun.{test_told}
use Rattle.session_port.specs.declared.news.TestMsg.{TestMsg}
use Rattle.notify.specs.declared.outgo.Outgo.TheVariants.{DiagnosticRefresh}
use Rattle.session_laws.proofs.Announcing.{checked_if-owes, checks-announced-owe, restarted_if-owes, tests-announced-owe}
use Rattle.quiet_laws.proofs.Parts.{LeavesAll, asked_if-leaves, leaving, passes-timers, timers_in}
use Rattle.quiet_laws.proofs.HearingWork.{Asks, Ends, MayWait, asks-on, asks-same, save-asks, ticket, wait-on}
use Rattle.quiet_laws.proofs.Resting.{HoldsNone, IsIdle}

-- ---- steps that ask, log or tell something

pub record Goes (w v : TurnState State) : Type 0 where
  pub files : v.state.files ≡ w.state.files
  pub cleared : v.state.board.cleared ≡ w.state.board.cleared
  pub turns : v.state.desk.turns ≡ w.state.desk.turns
  pub timers : timers_in v ≡ timers_in w
  pub work : Asks w.state.desk.turns w.state.workspaces v.state.workspaces

pub goes-on : (w v u : TurnState State) → Goes w v → Goes v u → Goes w u
goes-on w v u x y = record {
  files = y.files ∙ x.files;
  cleared = y.cleared ∙ x.cleared;
  turns = y.turns ∙ x.turns;
  timers = y.timers ∙ x.timers;
  work = asks-on w.state.desk.turns w.state.workspaces v.state.workspaces u.state.workspaces x.work
      (subst (λ n. Asks n v.state.workspaces u.state.workspaces) x.turns y.work);
}

pub goes-same : (w v : TurnState State) → v.state ≡ w.state → timers_in v ≡ timers_in w → Goes w v
goes-same w v same timers = record {
  files = ap (λ (s : State). s.files) same;
  cleared = ap (λ (s : State). s.board.cleared) same;
  turns = ap (λ (s : State). s.desk.turns) same;
  timers = timers;
  work = asks-same w.state.desk.turns w.state.workspaces v.state.workspaces (ap (λ (s : State). s.workspaces) same);
}

pub goes-none : (w : TurnState State) → Goes w w
goes-none w = goes-same w w refl refl

-- the workspaces come to this
pub goes-work : (w : TurnState State) (workspaces : Workspaces) → Asks w.state.desk.turns w.state.workspaces workspaces
    → Goes w (record w { state = with_workspaces workspaces w.state })
goes-work w workspaces asks = record { files = refl; cleared = refl; turns = refl; timers = refl; work = asks }

-- the board does
pub goes-board : (w : TurnState State) (board : Board) → board.cleared ≡ w.state.board.cleared → Goes w (record w { state = with_board board w.state })
goes-board w board same = record {
  files = refl;
  cleared = same;
  turns = refl;
  timers = refl;
  work = asks-same w.state.desk.turns w.state.workspaces w.state.workspaces refl;
}

-- a part that leaves all
pub goes-leaves : (w v : TurnState State) → LeavesAll w v → Goes w v
goes-leaves w v leaves = record {
  files = leaves.files;
  cleared = leaves.cleared;
  turns = leaves.turns;
  timers = leaves.out _ passes-timers;
  work = asks-same w.state.desk.turns w.state.workspaces v.state.workspaces leaves.workspaces;
}

pub leave-goes : (r : Result (TurnState State) Counter) (w : TurnState State) → IfOk r (LeavesAll w) → IfOk r (Goes w)
leave-goes r w leaves = IfOk-weaker r (LeavesAll w) (Goes w) leaves (goes-leaves w)

pub goes-ordered : (command : Command) (w : TurnState State) → timer_of command ≡ None → Goes w (ordered command w)
unfolding ordered
goes-ordered command w none = goes-same w (ordered command w) refl
    (filter_map-append timer_of w.out.commands (command ∷ [])
    ∙ ap (λ (o : Option ℕ). timers_in w ++ cons_option o []) none ∙ append-nil _)

pub goes-logged : (code : LogCode) (text : List ℕ) (w : TurnState State) → Goes w (logged code text w)
unfolding logged
goes-logged code text w = goes-ordered _ w refl

pub goes-logged_if : (code : LogCode) (text : Option (List ℕ)) (w : TurnState State) → Goes w (logged_if code text w)
goes-logged_if code None w = goes-none w
goes-logged_if code (Some text) w = goes-logged code text w

pub goes-if : (b : Bool) (w v u : TurnState State) → Goes w v → Goes w u → Goes w (if b then v else u)
goes-if true w v u x y = x
goes-if false w v u x y = y

-- a step of the desk
pub goes-desk : (work : TurnState Desk → Result (TurnState Desk) Counter) (w : TurnState State)
    → IfOk (work (record { state = w.state.desk; out = w.out })) (λ v. (v.state.turns ≡ w.state.desk.turns) × Passes w.out v.out)
    → IfOk (at_desk work w) (Goes w)
goes-desk work w does =
    IfOk-within desk_in with_desk work w (Goes w)
    (IfOk-weaker _ (λ (v : TurnState Desk). (v.state.turns ≡ w.state.desk.turns) × Passes w.out v.out) _ does
    (λ v p. record {
      files = refl;
      cleared = refl;
      turns = p.0;
      timers = p.1 _ passes-timers;
      work = asks-same w.state.desk.turns w.state.workspaces w.state.workspaces refl;
    }))

pub then-goes : (r : Result (TurnState State) Counter) (f : TurnState State → Result (TurnState State) Counter) (w : TurnState State) → IfOk r (Goes w)
    → ((v : TurnState State) → IfOk (f v) (Goes v)) → IfOk (and_then r f) (Goes w)
then-goes r f w first next =
    IfOk-and_then r f (Goes w) (Goes w) first (λ v x. IfOk-weaker (f v) (Goes v) (Goes w) (next v) (λ u y. goes-on w v u x y))

-- ---- files that were saved, and files that are to be read anew

noted-goes : (unknown : Bool) (path : List ℕ) (w : TurnState State) → Goes w (save_noted unknown path w)
unfolding save_noted
noted-goes true path w = goes-logged UnknownSave path w
noted-goes false path w = goes-none w

-- a step, and what leaves all behind it
pub goes-then-leaves : (w v : TurnState State) (r : Result (TurnState State) Counter) → Goes w v → IfOk r (LeavesAll v) → IfOk r (Goes w)
goes-then-leaves w v r goes leaves = IfOk-weaker r (LeavesAll v) (Goes w) leaves (λ u x. goes-on w v u goes (goes-leaves v u x))

saved-file-goes : (path : List ℕ) (w : TurnState State) → Goes w (saved_file path w)
saved-file-goes path w =
    let noted : TurnState State = save_noted (is_unknown w.state.files.ids path) path w in
    goes-on w noted _ (noted-goes (is_unknown w.state.files.ids path) path w)
    (goes-work noted (path_saved w.state.client.settings w.state.files path noted.state.workspaces)
    (save-asks noted.state.desk.turns w.state.client.settings w.state.files path noted.state.workspaces))

pub saved-goes : (o : Result (List ℕ) UrlFault) (uri : List ℕ) (w : TurnState State) → IfOk (saved_at o uri w) (Goes w)
unfolding saved_at
saved-goes (Err fault) uri w =
    let v : TurnState State = logged BadPath uri w in
    let wanted : Bool = checks_all_on_save w.state.client.settings in
    goes-then-leaves w v (checks_restarted_if wanted v) (goes-logged BadPath uri w) (restarted_if-owes LeavesAll leaving wanted v)
saved-goes (Ok path) uri w =
    let v : TurnState State = saved_file path w in
    let wanted : Bool = checks_on_save w.state.client.settings w.state.files.host.world.roots path in
    goes-then-leaves w v (file_checked_if wanted path v) (saved-file-goes path w) (checked_if-owes LeavesAll leaving wanted path v)

checked-at-goes : (uri : List ℕ) (o : Result (List ℕ) UrlFault) (w : TurnState State) → IfOk (file_checked_at uri o w) (Goes w)
unfolding file_checked_at
checked-at-goes uri (Err fault) w = goes-logged BadPath uri w
checked-at-goes uri (Ok path) w = leave-goes (file_checked_if true path w) w (checked_if-owes LeavesAll leaving true path w)

pub checks-run-go : (uri : Option (List ℕ)) (w : TurnState State) → IfOk (checks_run uri w) (Goes w)
unfolding checks_run
checks-run-go None w =
    let wanted : Bool = checks_workspaces w.state.client.settings in
    leave-goes (checks_restarted_if wanted w) w (restarted_if-owes LeavesAll leaving wanted w)
checks-run-go (Some uri) w = checked-at-goes uri (path_of uri) w

file-goes : (url : List ℕ) (o : Result (List ℕ) UrlFault) (w : TurnState State) → Goes w (file_changed url o w)
unfolding file_changed
file-goes url (Err fault) w = goes-logged _ url w
file-goes url (Ok path) w = goes-ordered (Invalidate path) w refl

pub watched-go : (seen : map.FinMap text_cmp (Unit {0})) (urls : List (List ℕ)) (w : TurnState State) → Goes w (files_changed seen urls w)
unfolding files_changed
watched-go seen [] w = goes-none w
watched-go seen (url ∷ urls) w =
    let v : TurnState State = file_changed url (path_of url) w in
    let more = map.insert seen url tt in
    goes-if (is_some (map.get seen url)) w (files_changed seen urls w) (files_changed more urls v) (watched-go seen urls w)
    (goes-on w v _ (file-goes url (path_of url) w) (watched-go more urls v))

-- ---- news of checks

found-goes : (id generation : ℕ) (of_package : Option (List ℕ)) (path : List ℕ) (diagnostic : Diagnostic) (fix : Option Data)
    (file : Option (FileId × FileExcluded)) (w : TurnState State) → Goes w (found_added id generation of_package path diagnostic fix file w)
unfolding found_added
found-goes id generation of_package path diagnostic fix None w = goes-logged CheckUnknownFile path w
found-goes id generation of_package path diagnostic fix (Some (file, Yes)) w = goes-none w
found-goes id generation of_package path diagnostic fix (Some (file, No)) w = goes-board w _ refl

outdated-cleared : (id : ℕ) (of_package : Option (Option (List ℕ))) (older_than : Option ℕ) (board : Board)
    → (after_act (outdated_act id of_package older_than) board).cleared ≡ board.cleared
outdated-cleared id None None board = refl
outdated-cleared id (Some of_package) None board = refl
outdated-cleared id None (Some generation) board = refl
outdated-cleared id (Some of_package) (Some generation) board = refl

check-goes : (message : FlycheckMsg) (w : TurnState State) → IfOk (check_told message w) (Goes w)
unfolding check_told
check-goes (checks.AddDiagnostic id generation of_package path diagnostic fix) w =
    found-goes id generation of_package path diagnostic fix (map.get w.state.files.ids path) w
check-goes (checks.ClearDiagnostics id of_package older_than) w = goes-board w _ (outdated-cleared id of_package older_than w.state.board)
check-goes (checks.Progress id progress) w =
    let told = progressed w.state.client.settings id progress w.state.activities.checks in
    leave-goes (checks_announced told w) w (checks-announced-owe LeavesAll leaving told w)

checks-go : (messages : List FlycheckMsg) (w : TurnState State) → IfOk (checks_told messages w) (Goes w)
unfolding checks_told
checks-go [] w = goes-none w
checks-go (message ∷ later) w = then-goes (check_told message w) (checks_told later) w (check-goes message w) (checks-go later)

checks-heard-go : (messages : List FlycheckMsg) (w : TurnState State) → IfOk (checks_heard messages w) (Goes w)
unfolding checks_heard
checks-heard-go messages w =
    then-goes (checks_told messages w) _ w (checks-go messages w) (λ v. leave-goes _ v (asked_if-leaves _ DiagnosticRefresh v))

tests-heard-go : (messages : List TestMsg) (w : TurnState State) → IfOk (tests_heard messages w) (Goes w)
unfolding tests_heard
tests-heard-go [] w = goes-none w
tests-heard-go (message ∷ later) w =
    let told = test_told message w.state.activities.tests in
    then-goes (tests_announced told w) (tests_heard later) w (leave-goes (tests_announced told w) w (tests-announced-owe LeavesAll leaving told w))
    (tests-heard-go later)

pub news-goes : (news : NewsData) (w : TurnState State) → IfOk (news_taken news w) (Goes w)
unfolding news_taken
news-goes (told_news.Flycheck messages) w = checks-heard-go messages w
news-goes (told_news.TestResult messages) w = tests-heard-go messages w
news-goes (told_news.DiscoverProject messages) w = goes-none w

-- ---- lists that come

put-cleared : (pass : NativePass) (both : Lists × Marked) (board : Board) → (with_lists pass both board).cleared ≡ board.cleared
put-cleared Syntax (lists, marked) board = refl
put-cleared Semantic (lists, marked) board = refl

given-cleared : (pass : NativePass) (generation : ℕ) (lists : List (FileId × List Diagnostic)) (run : List Act) (board : Board)
    → (after_acts (gives pass generation lists run) board).cleared ≡ (after_acts run board).cleared
given-cleared pass generation [] run board = refl
given-cleared pass generation (given ∷ more) run board =
    given-cleared pass generation more (Gives pass generation given.0 given.1 ∷ run) board ∙ put-cleared pass _ (after_acts run board)

pub lists-cleared : (generation : ℕ) (pass : NativePass) (lists : List (FileId × List Diagnostic)) (board : Board)
    → (lists_given generation pass lists board).cleared ≡ board.cleared
lists-cleared generation pass lists board = given-cleared pass generation lists [] board

-- ---- steps at which work may end

-- where nothing is in progress
pub record Calms (w v : TurnState State) : Type 0 where
  pub files : v.state.files ≡ w.state.files
  pub cleared : v.state.board.cleared ≡ w.state.board.cleared
  pub last : v.state.workspaces.fetches.queue.last ≡ w.state.workspaces.fetches.queue.last
  pub switch : v.state.workspaces.switch_wanted ≡ w.state.workspaces.switch_wanted
  pub idle : IsIdle v.state.workspaces

pub record Happens (w v : TurnState State) : Type 0 where
  pub progress : v.state.files.progress_version ≡ w.state.files.progress_version
  pub turns : v.state.desk.turns ≡ w.state.desk.turns
  pub timers : timers_in v ≡ timers_in w
  pub timer : MayWait w.state.desk.turns (ticket w.state.workspaces) (ticket v.state.workspaces)
  pub versions : versions_of v.state.workspaces ≡ versions_of w.state.workspaces
  pub holds : HoldsNone w.state.workspaces → HoldsNone v.state.workspaces

pub happens-on : (w v u : TurnState State) → Happens w v → Happens v u → Happens w u
happens-on w v u x y = record {
  progress = y.progress ∙ x.progress;
  turns = y.turns ∙ x.turns;
  timers = y.timers ∙ x.timers;
  timer = wait-on w.state.desk.turns (ticket w.state.workspaces) (ticket v.state.workspaces) (ticket u.state.workspaces) x.timer
      (subst (λ n. MayWait n (ticket v.state.workspaces) (ticket u.state.workspaces)) x.turns y.timer);
  versions = y.versions ∙ x.versions;
  holds = λ holds. y.holds (x.holds holds);
}

pub record Takes (w v : TurnState State) : Type 0 where
  pub happens : Happens w v
  pub calms : IsIdle w.state.workspaces → Calms w v

pub takes-on : (w v u : TurnState State) → Takes w v → Takes v u → Takes w u
takes-on w v u x y = record {
  happens = happens-on w v u x.happens y.happens;
  calms = λ idle.
      let a = x.calms idle in
      let b = y.calms a.idle in
      record { files = b.files ∙ a.files; cleared = b.cleared ∙ a.cleared; last = b.last ∙ a.last; switch = b.switch ∙ a.switch; idle = b.idle };
}

asks-holds : (turns : ℕ) (before after : Workspaces) → Asks turns before after → HoldsNone before → HoldsNone after
asks-holds turns before after asks holds = subst (λ (l : Loads). l.queue.in_progress ≡ false → l.waiting ≡ None) (sym asks.loads) holds

asks-idle : (turns : ℕ) (before after : Workspaces) → Asks turns before after → IsIdle before → IsIdle after
asks-idle turns before after asks idle = record {
  fetches = asks.fetching ∙ idle.fetches;
  builds = asks.building ∙ idle.builds;
  loads = ap (λ (l : Loads). l.queue.in_progress) asks.loads ∙ idle.loads;
}

pub takes-goes : (w v : TurnState State) → Goes w v → Takes w v
takes-goes w v goes = record {
  happens = record {
    progress = ap (λ (f : SessionFiles). f.progress_version) goes.files;
    turns = goes.turns;
    timers = goes.timers;
    timer = goes.work.timer;
    versions = goes.work.versions;
    holds = asks-holds w.state.desk.turns w.state.workspaces v.state.workspaces goes.work;
  };
  calms = λ idle. record {
    files = goes.files;
    cleared = goes.cleared;
    last = goes.work.last;
    switch = goes.work.switch;
    idle = asks-idle w.state.desk.turns w.state.workspaces v.state.workspaces goes.work idle;
  };
}

-- work that ends
pub takes-ends : (w : TurnState State) (workspaces : Workspaces) → Ends w.state.workspaces workspaces
    → Takes w (record w { state = with_workspaces workspaces w.state })
takes-ends w workspaces ends = record {
  happens = record {
    progress = refl;
    turns = refl;
    timers = refl;
    timer = inl ends.timer;
    versions = ends.versions;
    holds = ends.holds;
  };
  calms = λ idle. record {
    files = refl;
    cleared = refl;
    last = ap (λ (ws : Workspaces). ws.fetches.queue.last) (ends.none idle);
    switch = ap (λ (ws : Workspaces). ws.switch_wanted) (ends.none idle);
    idle = subst IsIdle (sym (ends.none idle)) idle;
  };
}

pub then-takes : (r : Result (TurnState State) Counter) (f : TurnState State → Result (TurnState State) Counter) (w : TurnState State) → IfOk r (Takes w)
    → ((v : TurnState State) → IfOk (f v) (Takes v)) → IfOk (and_then r f) (Takes w)
then-takes r f w first next =
    IfOk-and_then r f (Takes w) (Takes w) first (λ v x. IfOk-weaker (f v) (Takes v) (Takes w) (next v) (λ u y. takes-on w v u x y))

pub goes-takes : (r : Result (TurnState State) Counter) (w : TurnState State) → IfOk r (Goes w) → IfOk r (Takes w)
goes-takes r w goes = IfOk-weaker r (Goes w) (Takes w) goes (λ v x. takes-goes w v x)
