-- The parts of a turn behind its files: a batch may count, the files that are marked are published, and nothing else is.
use Rattle.std.proofs.Common.{◌≡◌, ℕ, ℤ, List, [], ◌∷◌, ◌++◌, append-nil, append_assoc, Bool, true, false, refl, sym, ap, ◌∙◌}
use Rattle.std.specs.Prelude.{◌==◌, map as each, Option, None, Some, Result, Ok, Err, IfOk, if◌then◌else◌}
use Rattle.std.specs.List.{cons_option}
use Rattle.std.specs.FinMap as map
use Rattle.docs_vfs.specs.FileUrls.{url_of}
use Rattle.docs_vfs.specs.Files.{path_at}
use Rattle.docs_vfs.specs.declared.file_kinds.FileId.{FileId}
use Rattle.lsp_types.specs.Values.{diagnostic_value, list_value}
use Rattle.lsp_types.specs.declared.diagnostic.Diagnostic.{Diagnostic}
use Rattle.method_table.specs.declared.class.PoolClass.{PoolClass}
use Rattle.method_table.specs.declared.class.PoolClass.TheVariants.{Latency, Worker}
use Rattle.notify.specs.declared.outgo.Outgo.{Outgo}
use Rattle.notify.specs.declared.outgo.Outgo.TheVariants.{Publish}
use Rattle.op_board.specs.Acts.{step as after_act}
use Rattle.op_board.specs.Acts.Act.{Takes}
use Rattle.op_board.specs.Board.{Board, diagnostics_of}
use Rattle.op_board.specs.Changes.{files_in as files_taken}
use Rattle.op_board.specs.Marked.{taken}
use Rattle.session_port.specs.TurnState.{TurnState, and_then, ordered, written}
use Rattle.session_port.specs.declared.fault.Counter.{Counter}
use Rattle.session_port.specs.declared.job.JobKind.{JobKind}
use Rattle.session_port.specs.declared.job.JobKind.TheVariants.{FetchBuildData}
use Rattle.client.specs.Steps.{notification_of}
use Rattle.desk.specs.Desk.{Desk}
use Rattle.desk.specs.Steps.{handed_over, jobs_kept}
use Rattle.desk_laws.proofs.Results.{IfOk-and_then, IfOk-if, IfOk-weaker, IfOk-within}
use Rattle.ra_config.specs.Config.{ConfigData}
use Rattle.session_files.specs.SessionFiles.{SessionFiles}
use Rattle.status.specs.Same.{is_same_status}
use Rattle.status.specs.declared.status.Status.{Status}
use Rattle.workspaces.specs.Fetches.{fetch_to_start, fires, start_fetch}
use Rattle.workspaces.specs.Workspaces.{Workspaces}
use Rattle.workspaces.specs.declared.requests.FetchRequest.{FetchRequest}
use Rattle.session_model.specs.Building.{build_due, with_due_build}
use Rattle.session_model.specs.Diagnosing.{batch_counted, batch_kinds, is_batch_due, publication, told_diagnostic}
use Rattle.session_model.specs.Fetching.{with_fetches}
use Rattle.session_model.specs.Loading.{MacroPaths, load_due, load_kind, with_due_load}
use Rattle.session_model.specs.Machine.{all_asked, all_published, at_board, at_desk, at_workspaces, batch_asked, batch_done}
use Rattle.session_model.specs.Machine.{begun_fetches, build_handed_over}
use Rattle.session_model.specs.Machine.{build_started, came_or_went, desk_in, desk_kept, fetch_handed_over, fetch_started, files_published}
use Rattle.session_model.specs.Machine.{load_handed_over, load_started}
use Rattle.session_model.specs.Machine.{checks_done, marked_published, published_at, quiet_done, refreshes_done, revised, runs_started, saves_registered}
use Rattle.session_model.specs.Machine.{status_changed, status_done, status_kept}
use Rattle.session_model.specs.Machine.{status_told, text_shown, timer_set, turn_closed, with_desk}
use Rattle.session_model.specs.State.{State, fetch_kind, snapshot_of}
use Rattle.session_model.specs.Status.{is_quiescent, opens_logs, shown_of, status_message, status_now, takes_status}
use Rattle.session_model.specs.declared.facts.FactsBefore.{FactsBefore}
use Rattle.session_model.specs.declared.input.Input.{Input}
use Rattle.session_laws.proofs.Announcing as saying
use Rattle.session_laws.proofs.Announcing.{Announces, announcing, written-unpublished}
use Rattle.session_laws.specs.Published.{Published, published_by}
use Rattle.diagnostics_laws.specs.Shown.{told_list}
use Rattle.diagnostics_laws.proofs.Sounding.{told-append, told_in}
use Rattle.diagnostics_laws.proofs.SoundingDesk.{DeskStep, spawned-step}

-- ---- what is kept

-- the board and the files stay, and nothing is published
pub record Kept (w v : TurnState State) : Type 0 where
  pub board : v.state.board ≡ w.state.board
  pub files : v.state.files ≡ w.state.files
  pub told : told_in v.out ≡ told_in w.out

kept-none : (w : TurnState State) → Kept w w
kept-none w = record { board = refl; files = refl; told = refl }

pub kept-on : (w v u : TurnState State) → Kept w v → Kept v u → Kept w u
kept-on w v u p q = record { board = q.board ∙ p.board; files = q.files ∙ p.files; told = q.told ∙ p.told }

kept-then : (r : Result (TurnState State) Counter) (f : TurnState State → Result (TurnState State) Counter) (w : TurnState State) → IfOk r (Kept w)
    → ((v : TurnState State) → IfOk (f v) (Kept v)) → IfOk (and_then r f) (Kept w)
kept-then r f w first next = IfOk-and_then r f (Kept w) (Kept w)
    first (λ v p. IfOk-weaker (f v) (Kept v) (Kept w) (next v) (λ u q. kept-on w v u p q))

-- of two things that hold of an answer both do
pub both-of : {X E : Type 0} (r : Result X E) (P Q : X → Type 0) → IfOk r P → IfOk r Q → IfOk r (λ x. P x × Q x)
both-of (Ok x) P Q p q = (p, q)
both-of (Err e) P Q p q = tt

spawned-kept : (class : PoolClass) (kind : JobKind) (w : TurnState State) → IfOk (at_desk (handed_over (snapshot_of w.state) class kind) w) (Kept w)
spawned-kept class kind w =
    let desk : TurnState Desk = record { state = w.state.desk; out = w.out } in
    IfOk-within desk_in with_desk (handed_over (snapshot_of w.state) class kind) w (Kept w)
    (IfOk-weaker (handed_over (snapshot_of w.state) class kind desk) (DeskStep desk) _ (spawned-step (snapshot_of w.state) class kind desk)
    (λ v d. record { board = refl; files = refl; told = d.1 }))

-- something is said that publishes nothing
announces-keep : (w v : TurnState State) → Announces w v → Kept w v
announces-keep w v a = record { board = ap (λ (s : State). s.board) a.state; files = ap (λ (s : State). s.files) a.state; told = a.unpublished }

announced-kept : (r : Result (TurnState State) Counter) (w : TurnState State) → IfOk r (Announces w) → IfOk r (Kept w)
announced-kept r w said = IfOk-weaker r (Announces w) (Kept w) said (announces-keep w)

notified-kept : (message : Outgo) (w : TurnState State) → published_by (notification_of message) ≡ None → Kept w (written (notification_of message) w)
unfolding written
notified-kept message w none = record { board = refl; files = refl; told = written-unpublished (notification_of message) w none }

-- ---- a batch

all-asked-kept : (kinds : List JobKind) (w : TurnState State) → IfOk (all_asked kinds w) (Kept w)
unfolding all_asked
all-asked-kept [] w = kept-none w
all-asked-kept (kind ∷ kinds) w =
    kept-then (at_desk (handed_over (snapshot_of w.state) Latency kind) w) (all_asked kinds) w (spawned-kept Latency kind w) (all-asked-kept kinds)

-- the board behind a batch that may be due
abbrev pub batch_board : Bool → ConfigData → Board → Board
batch_board due settings board = if due then batch_counted settings board else board

-- where one is due, the board counts it
pub record IsBatched (due : Bool) (w v : TurnState State) : Type 0 where
  pub board : v.state.board ≡ batch_board due w.state.client.settings w.state.board
  pub files : v.state.files ≡ w.state.files
  pub told : told_in v.out ≡ told_in w.out

asked-batched : (due : Bool) (w : TurnState State) → IfOk (if due then batch_asked w else Ok w) (IsBatched due w)
unfolding batch_asked
asked-batched true w =
    let v : TurnState State = at_board (batch_counted w.state.client.settings) w in
    IfOk-weaker (all_asked (batch_kinds w.state) v) (Kept v) (IsBatched true w) (all-asked-kept (batch_kinds w.state) v)
    (λ u k. record { board = k.board; files = k.files; told = k.told })
asked-batched false w = record { board = refl; files = refl; told = refl }

abbrev pub due_in : Input → FactsBefore → State → Bool
due_in input facts s = is_batch_due facts.quiescent (is_quiescent s.files s.workspaces) facts.processed (came_or_went input)

done-batched : (input : Input) (facts : FactsBefore) (w : TurnState State)
    → IfOk (batch_done (came_or_went input) facts w) (IsBatched (due_in input facts w.state) w)
unfolding batch_done
done-batched input facts w = asked-batched (due_in input facts w.state) w

-- what is said before it changes nothing that a batch goes by
said-batched : (input : Input) (facts : FactsBefore) (w v u : TurnState State) → Announces w v
    → IsBatched (due_in input facts v.state) v u → IsBatched (due_in input facts w.state) w u
said-batched input facts w v u said b =
    let settings_are : v.state.client.settings ≡ w.state.client.settings = ap (λ (s : State). s.client.settings) said.state in
    let board_is : v.state.board ≡ w.state.board = ap (λ (s : State). s.board) said.state in
    let due_is : due_in input facts v.state ≡ due_in input facts w.state = ap (due_in input facts) said.state in
    record {
      board = b.board ∙ (λ i. batch_board (due_is i) (settings_are i) (board_is i));
      files = b.files ∙ ap (λ (s : State). s.files) said.state;
      told = b.told ∙ said.unpublished;
    }

-- a step that says something, and then one behind which a batch may have been asked for
said-then : (input : Input) (facts : FactsBefore) (r : Result (TurnState State) Counter) (f : TurnState State → Result (TurnState State) Counter)
    (w : TurnState State) → IfOk r (Announces w) → ((v : TurnState State) → IfOk (f v) (IsBatched (due_in input facts v.state) v))
    → IfOk (and_then r f) (IsBatched (due_in input facts w.state) w)
said-then input facts r f w said next =
    IfOk-and_then r f (Announces w) (IsBatched (due_in input facts w.state) w) said
    (λ v a. IfOk-weaker (f v) (IsBatched (due_in input facts v.state) v) (IsBatched (due_in input facts w.state) w) (next v)
    (λ u b. said-batched input facts w v u a b))

pub quiet-batched : (input : Input) (facts : FactsBefore) (w : TurnState State)
    → IfOk (quiet_done input facts w) (IsBatched (due_in input facts w.state) w)
unfolding quiet_done
quiet-batched input facts w =
    said-then input facts (checks_done facts w) _ w (saying.checks-done-owe Announces announcing facts w)
    (λ v. said-then input facts (refreshes_done facts v) (batch_done (came_or_went input) facts) v
    (saying.refreshes-owe Announces announcing facts v) (done-batched input facts))

-- ---- publishing

-- what a message of publishing publishes
pub publish-reads : (list : List Diagnostic) (url : List ℕ) (version : Option ℤ)
    → published_by (notification_of (Publish list url version)) ≡ Some (record { url = url; list = list_value diagnostic_value list })
publish-reads list url None = refl
publish-reads list url (Some n) = refl

abbrev pub published_as_at : Board → FileId → Option (List ℕ) → List Published
published_as_at board file None = []
published_as_at board file (Some path) = (record { url = url_of path; list = told_list (diagnostics_of file board) }) ∷ []

-- what is published of files that are marked
abbrev pub published_of : SessionFiles → Board → List FileId → List Published
published_of files board [] = []
published_of files board (file ∷ later) = published_as_at board file (path_at files.table file) ++ published_of files board later

-- the session stays, and this is published
record Publishes (list : List Published) (w v : TurnState State) : Type 0 where
  state : v.state ≡ w.state
  told : told_in v.out ≡ told_in w.out ++ list

at-publishes : (o : Option (List ℕ)) (file : FileId) (w : TurnState State)
    → Publishes (published_as_at w.state.board file o) w (published_at o file w)
unfolding published_at written
at-publishes None file w = record { state = refl; told = sym (append-nil _) }
at-publishes (Some path) file w = record {
  state = refl;
  told = told-append w.out.messages (notification_of (publication w.state.files w.state.board file path) ∷ [])
      ∙ ap (λ (o : Option Published). told_in w.out ++ cons_option o [])
      (publish-reads (each told_diagnostic (diagnostics_of file w.state.board)) (url_of path) (map.get w.state.files.versions path));
}

all-publish : (files : List FileId) (w : TurnState State) → Publishes (published_of w.state.files w.state.board files) w (all_published files w)
all-publish [] w = record { state = refl; told = sym (append-nil _) }
all-publish (file ∷ files) w =
    let v : TurnState State = published_at (path_at w.state.files.table file) file w in
    let one = at-publishes (path_at w.state.files.table file) file w in
    let first : List Published = published_as_at w.state.board file (path_at w.state.files.table file) in
    let more = all-publish files v in
    record {
      state = more.state ∙ one.state;
      told = more.told ∙ ap (λ (ps : List Published). ps ++ published_of v.state.files v.state.board files) one.told
          ∙ ap (λ (s : State). (told_in w.out ++ first) ++ published_of s.files s.board files) one.state
          ∙ append_assoc (told_in w.out) first (published_of w.state.files w.state.board files);
    }

some-publish : (o : Option (List FileId)) (w : TurnState State)
    → Publishes (published_of w.state.files w.state.board (files_taken o)) w (files_published o w)
some-publish None w = record { state = refl; told = sym (append-nil _) }
some-publish (Some files) w = all-publish files w

-- the marks are taken, and the files that had one are published
pub record TakesMarks (w v : TurnState State) : Type 0 where
  pub board : v.state.board ≡ after_act Takes w.state.board
  pub files : v.state.files ≡ w.state.files
  pub told : told_in v.out ≡ told_in w.out ++ published_of w.state.files (after_act Takes w.state.board) (files_taken (taken w.state.board.marked))

pub marked-takes : (w : TurnState State) → TakesMarks w (marked_published w)
unfolding marked_published
marked-takes w =
    let v : TurnState State = at_board (after_act Takes) w in
    let p = some-publish (taken w.state.board.marked) v in
    record { board = ap (λ (s : State). s.board) p.state; files = ap (λ (s : State). s.files) p.state; told = p.told }

-- ---- the parts behind it

starts-kept : (step : Workspaces → Workspaces) (kind : JobKind) (w : TurnState State)
    → IfOk (at_desk (handed_over (snapshot_of (at_workspaces step w).state) Worker kind) (at_workspaces step w)) (Kept w)
starts-kept step kind w =
    let v : TurnState State = at_workspaces step w in
    IfOk-weaker _ (Kept v) (Kept w) (spawned-kept Worker kind v) (λ u k. record { board = k.board; files = k.files; told = k.told })

fetch-handed-kept : (may : Bool) (request : Option (List ℕ × FetchRequest)) (w : TurnState State)
    → IfOk (fetch_handed_over request (at_workspaces (with_fetches (start_fetch may)) w)) (Kept w)
unfolding fetch_handed_over
fetch-handed-kept may None w = record { board = refl; files = refl; told = refl }
fetch-handed-kept may (Some request) w = starts-kept (with_fetches (start_fetch may)) (fetch_kind w.state.client.settings request.1) w

pub fetch-kept : (may : Bool) (w : TurnState State) → IfOk (fetch_started may w) (Kept w)
unfolding fetch_started
fetch-kept may w = fetch-handed-kept may (fetch_to_start may w.state.workspaces.fetches) w

build-handed-kept : (version : Option ℕ) (w : TurnState State) → IfOk (build_handed_over version (at_workspaces with_due_build w)) (Kept w)
unfolding build_handed_over
build-handed-kept None w = record { board = refl; files = refl; told = refl }
build-handed-kept (Some version) w = starts-kept with_due_build (FetchBuildData version) w

build-kept : (w : TurnState State) → IfOk (build_started w) (Kept w)
unfolding build_started
build-kept w = build-handed-kept (build_due w.state.workspaces) w

load-handed-kept : (build : Option ℕ) (paths : Option MacroPaths) (w : TurnState State)
    → IfOk (load_handed_over paths (at_workspaces (with_due_load build) w)) (Kept w)
unfolding load_handed_over
load-handed-kept build None w = record { board = refl; files = refl; told = refl }
load-handed-kept build (Some paths) w = starts-kept (with_due_load build) (load_kind w.state.client.settings paths) w

load-kept : (build : Option ℕ) (w : TurnState State) → IfOk (load_started build w) (Kept w)
unfolding load_started
load-kept build w = load-handed-kept build (load_due build w.state.workspaces) w

pub runs-kept : (w : TurnState State) → IfOk (runs_started w) (Kept w)
unfolding runs_started
runs-kept w = kept-then (build_started w) _ w (build-kept w) (load-kept (build_due w.state.workspaces))

pub status-kept : (w : TurnState State) → IfOk (status_done w) (Kept w)
unfolding status_done status_kept status_changed status_told
status-kept w =
    let status : Status = status_now w.state.client w.state.files w.state.workspaces w.state.activities.checks in
    kept-then (status_changed status w) _ w
    (IfOk-if (is_same_status w.state.status status) (Ok w) (status_told status w) (Kept w) (kept-none w)
    (IfOk-if (takes_status w.state.client.settings) _ _ (Kept w) (notified-kept (status_message status) w refl)
    (announced-kept (text_shown (opens_logs w.state.client.settings w.state.workspaces) (shown_of status) w) w
    (saying.shown-owes Announces announcing (opens_logs w.state.client.settings w.state.workspaces) (shown_of status) w))))
    (λ v. record { board = refl; files = refl; told = refl })

pub registers-kept : (w : TurnState State) → IfOk (saves_registered w) (Kept w)
unfolding saves_registered
registers-kept w = announced-kept (saves_registered w) w (saying.asked_if-owes Announces announcing _ _ w)

pub begun-kept : (w : TurnState State) → IfOk (begun_fetches w) (Kept w)
unfolding begun_fetches
begun-kept w = record { board = refl; files = refl; told = refl }

-- ---- the end of a turn

out-kept : (before : ℕ) (w : TurnState State)
    → (let d : TurnState Desk = record { state = w.state.desk; out = w.out } in
    Kept w (record { state = with_desk (jobs_kept before d).state w.state; out = (jobs_kept before d).out }))
unfolding jobs_kept
out-kept before w = record { board = refl; files = refl; told = refl }

desk-kept-kept : (before : ℕ) (w : TurnState State) → IfOk (desk_kept before w) (Kept w)
unfolding desk_kept
desk-kept-kept before w = IfOk-within desk_in with_desk (λ d. Ok (jobs_kept before d)) w (Kept w) (out-kept before w)

if-kept : (b : Bool) (w v u : TurnState State) → Kept w v → Kept w u → Kept w (if b then v else u)
if-kept true w v u p q = p
if-kept false w v u p q = q

revised-kept : (revision : ℕ) (w : TurnState State) → Kept w (revised revision w)
unfolding revised ordered
revised-kept revision w =
    if-kept (w.state.files.host.revision == revision) w w _ (kept-none w) (record { board = refl; files = refl; told = refl })

timer-kept : (w : TurnState State) → Kept w (timer_set w)
unfolding timer_set ordered
timer-kept w =
    if-kept (fires w.state.desk.turns w.state.workspaces.fetches.waiting) w _ w (record { board = refl; files = refl; told = refl }) (kept-none w)

pub closed-kept : (facts : FactsBefore) (w : TurnState State) → IfOk (turn_closed facts w) (Kept w)
closed-kept facts w =
    kept-then (desk_kept facts.ordered w) _ w (desk-kept-kept facts.ordered w)
    (λ v. kept-on v (revised facts.revision v) (timer_set (revised facts.revision v)) (revised-kept facts.revision v)
    (timer-kept (revised facts.revision v)))
