-- The steps of a turn that publish nothing: what they do on the board are acts that fit the session, and paths stay in the table.
use Rattle.std.proofs.Common.{◌≡◌, ℕ, List, [], ◌∷◌, ◌++◌, append_assoc, Bool, true, false, refl, sym, ap, ◌∙◌, subst}
use Rattle.std.specs.Prelude.{Option, None, Some, Result, IfOk, if◌then◌else◌}
use Rattle.std.specs.FinMap as map
use Rattle.std.proofs.lemmas.List.Elements.{filter_map-append}
use Rattle.activities.specs.declared.telling.Telling.{Telling}
use Rattle.docs_vfs.specs.declared.file_kinds.FileId.{FileId}
use Rattle.lsp_frame.specs.declared.message.Message.{Message}
use Rattle.notify.specs.declared.outgo.MessageKind.TheVariants.{Warning}
use Rattle.notify.specs.declared.outgo.Outgo.{Outgo}
use Rattle.notify.specs.declared.outgo.Outgo.TheVariants.{ShowMessage}
use Rattle.op_board.specs.Acts.{Act, step, steps}
use Rattle.op_board.specs.Board.{Board}
use Rattle.op_board.specs.declared.diagnostic.NativePass.{NativePass}
use Rattle.op_board.proofs.NativeRuns.{continued}
use Rattle.client.specs.Client.{Client}
use Rattle.client.specs.Steps.{asked_for, logged_if, notification_of}
use Rattle.client.specs.declared.handler.ReqHandler.{ReqHandler}
use Rattle.session_port.specs.Jobs.{Jobs}
use Rattle.session_port.specs.TurnState.{TurnState, and_then, logged, ordered, written}
use Rattle.session_port.specs.Written.{Written}
use Rattle.session_port.specs.declared.command.Command.{Command}
use Rattle.session_port.specs.declared.command.LogCode.{LogCode}
use Rattle.session_port.specs.declared.fault.Counter.{Counter}
use Rattle.session_port.specs.declared.job.Job.{Job}
use Rattle.desk.specs.Desk.{Desk}
use Rattle.desk_laws.proofs.Results.{IfOk-and_then, IfOk-weaker, IfOk-within}
use Rattle.session_files.specs.SessionFiles.{SessionFiles}
use Rattle.session_model.specs.Machine.{asked_if, at_board, at_client, at_desk, at_files, at_workspaces, client_in, desk_in}
use Rattle.session_model.specs.Machine.{files_in}
use Rattle.session_model.specs.Machine.{tellings_told, warned, with_client, with_desk, with_files}
use Rattle.session_model.specs.State.{State}
use Rattle.workspaces.specs.Workspaces.{Workspaces}
use Rattle.session_laws.specs.Published.{Published, published_among, published_by}
use Rattle.session_laws.proofs.Announcing as saying
use Rattle.session_laws.proofs.Announcing.{Announces, announcing, written-unpublished}
use Rattle.diagnostics_laws.proofs.StoringBatches.{Lists, last_given}
use Rattle.diagnostics_laws.proofs.StoringGenerations.{AllFit, Fits, Grows, all-fit-grown, all-fit-on, steps-generation}
use Rattle.diagnostics_laws.proofs.SoundingFiles.{FilesStep, longer-grows}

-- ---- what is published

abbrev pub told_in : Written → List Published
told_in out = published_among out.messages

pub told-append : (xs ys : List Message) → published_among (xs ++ ys) ≡ published_among xs ++ published_among ys
told-append xs ys = filter_map-append published_by xs ys

-- ---- the relation

-- the jobs that are out were so
abbrev pub AreAmong : Jobs → Jobs → Type 0
AreAmong new old = (number : ℕ) (job : Job) → map.get new number ≡ Some job → map.get old number ≡ Some job

-- what lists make of those that came before
abbrev pub Bringing : Type 0
Bringing = NativePass → ℕ → FileId → Lists → Lists

abbrev pub brings_none : Bringing
brings_none pass generation file before = before

-- acts on the board, which give these lists; and what becomes of the jobs out
pub record GoesBy (brings : Bringing) (left : Jobs → Jobs) (w v : TurnState State) : Type 0 where
  pub acts : List Act
  pub board : v.state.board ≡ steps acts w.state.board
  pub fits : AllFit v.state.files.table w.state.board.generation acts
  pub given : (pass : NativePass) (generation : ℕ) (file : FileId) (run : List Act)
      → last_given pass generation file (acts ++ run) ≡ brings pass generation file (last_given pass generation file run)
  pub told : told_in v.out ≡ told_in w.out
  pub grows : Grows w.state.files.table v.state.files.table
  pub jobs : v.state.desk.jobs ≡ left w.state.desk.jobs

abbrev pub left_out : Jobs → Jobs
left_out jobs = jobs

-- no list is given, and the jobs stay
abbrev pub Goes : TurnState State → TurnState State → Type 0
Goes w v = GoesBy brings_none left_out w v

pub goes-generation : (brings : Bringing) (left : Jobs → Jobs) (w v : TurnState State) → GoesBy brings left w v
    → v.state.board.generation ≡ w.state.board.generation
goes-generation brings left w v g =
    ap (λ (b : Board). b.generation) g.board ∙ steps-generation v.state.files.table w.state.board.generation g.acts w.state.board g.fits

pub goes-by : (first later : Bringing) (left gone : Jobs → Jobs) (w v u : TurnState State) → GoesBy first left w v → GoesBy later gone v u
    → GoesBy (λ pass generation file before. later pass generation file (first pass generation file before)) (λ jobs. gone (left jobs)) w u
goes-by first later left gone w v u p q = record {
  acts = q.acts ++ p.acts;
  board = q.board ∙ ap (steps q.acts) p.board ∙ continued q.acts p.acts w.state.board;
  fits = all-fit-on u.state.files.table w.state.board.generation q.acts p.acts
      (subst (λ n. AllFit u.state.files.table n q.acts) (goes-generation first left w v p) q.fits)
      (all-fit-grown v.state.files.table u.state.files.table w.state.board.generation p.acts q.grows p.fits);
  given = λ pass generation file run.
      ap (last_given pass generation file) (append_assoc q.acts p.acts run) ∙ q.given pass generation file (p.acts ++ run)
      ∙ ap (later pass generation file) (p.given pass generation file run);
  told = q.told ∙ p.told;
  grows = λ file path is. q.grows file path (p.grows file path is);
  jobs = q.jobs ∙ ap gone p.jobs;
}

pub goes-on : (w v u : TurnState State) → Goes w v → Goes v u → Goes w u
goes-on w v u p q = goes-by brings_none brings_none left_out left_out w v u p q

-- the board, the files and the jobs stay
pub still : (w v : TurnState State) → v.state.board ≡ w.state.board → v.state.files ≡ w.state.files → v.state.desk.jobs ≡ w.state.desk.jobs
    → told_in v.out ≡ told_in w.out → Goes w v
still w v board files jobs told = record {
  acts = [];
  board = board;
  fits = tt;
  given = λ pass generation file run. refl;
  told = told;
  grows = subst (λ (f : SessionFiles). Grows w.state.files.table f.table) (sym files) (λ file path is. is);
  jobs = jobs;
}

pub itself : (w : TurnState State) → Goes w w
itself w = still w w refl refl refl refl

-- one step and then another
pub goes-then : (r : Result (TurnState State) Counter) (f : TurnState State → Result (TurnState State) Counter) (w : TurnState State)
    → IfOk r (Goes w)
    → ((v : TurnState State) → IfOk (f v) (Goes v)) → IfOk (and_then r f) (Goes w)
goes-then r f w first next = IfOk-and_then r f (Goes w) (Goes w)
    first (λ v p. IfOk-weaker (f v) (Goes v) (Goes w) (next v) (λ u q. goes-on w v u p q))

pub goes-if : (b : Bool) (w v u : TurnState State) → Goes w v → Goes w u → Goes w (if b then v else u)
goes-if true w v u p q = p
goes-if false w v u p q = q

-- ---- single steps

-- one act on the board
pub acts-one : (act : Act) (w : TurnState State) → Fits w.state.files.table w.state.board.generation act
    → ((pass : NativePass) (generation : ℕ) (file : FileId) (run : List Act)
    → last_given pass generation file (act ∷ run) ≡ last_given pass generation file run)
    → Goes w (at_board (step act) w)
acts-one act w fits given = record {
  acts = act ∷ [];
  board = refl;
  fits = (fits, tt);
  given = given;
  told = refl;
  grows = λ file path is. is;
  jobs = refl;
}

-- a step of the desk
pub desk-goes : (work : TurnState Desk → Result (TurnState Desk) Counter) (w : TurnState State)
    → (let desk : TurnState Desk = record { state = w.state.desk; out = w.out } in
    IfOk (work desk) (λ v. (v.state.jobs ≡ w.state.desk.jobs) × (told_in v.out ≡ told_in w.out)))
    → IfOk (at_desk work w) (Goes w)
desk-goes work w does =
    let desk : TurnState Desk = record { state = w.state.desk; out = w.out } in
    IfOk-within desk_in with_desk work w (Goes w)
    (IfOk-weaker (work desk) (λ v. (v.state.jobs ≡ w.state.desk.jobs) × (told_in v.out ≡ told_in w.out)) _ does
    (λ v d. record {
      acts = [];
      board = refl;
      fits = tt;
      given = λ pass generation file run. refl;
      told = d.1;
      grows = λ file path is. is;
      jobs = d.0;
    }))

-- a step of what is agreed with the client
pub client-goes : (work : TurnState Client → Result (TurnState Client) Counter) (w : TurnState State)
    → (let client : TurnState Client = record { state = w.state.client; out = w.out } in IfOk (work client) (λ v. told_in v.out ≡ told_in w.out))
    → IfOk (at_client work w) (Goes w)
client-goes work w does =
    let client : TurnState Client = record { state = w.state.client; out = w.out } in
    IfOk-within client_in with_client work w (Goes w)
    (IfOk-weaker (work client) (λ v. told_in v.out ≡ told_in w.out) _ does
    (λ v told. record {
      acts = [];
      board = refl;
      fits = tt;
      given = λ pass generation file run. refl;
      told = told;
      grows = λ file path is. is;
      jobs = refl;
    }))

-- a step of the files
pub files-goes : (work : TurnState SessionFiles → Result (TurnState SessionFiles) Counter) (w : TurnState State)
    → (let files : TurnState SessionFiles = record { state = w.state.files; out = w.out } in IfOk (work files) (FilesStep files))
    → IfOk (at_files work w) (Goes w)
files-goes work w does =
    let files : TurnState SessionFiles = record { state = w.state.files; out = w.out } in
    IfOk-within files_in with_files work w (Goes w)
    (IfOk-weaker (work files) (FilesStep files) _ does
    (λ v d. record {
      acts = [];
      board = refl;
      fits = tt;
      given = λ pass generation file run. refl;
      told = ap published_among d.1;
      grows = longer-grows w.state.files.table v.state.table d.0;
      jobs = refl;
    }))

pub workspaces-go : (step : Workspaces → Workspaces) (w : TurnState State) → Goes w (at_workspaces step w)
workspaces-go step w = still w (at_workspaces step w) refl refl refl refl

pub ordered-goes : (command : Command) (w : TurnState State) → Goes w (ordered command w)
unfolding ordered
ordered-goes command w = still w _ refl refl refl refl

pub logged-goes : (code : LogCode) (text : List ℕ) (w : TurnState State) → Goes w (logged code text w)
unfolding logged
logged-goes code text w = ordered-goes _ w

pub logged_if-goes : (code : LogCode) (text : Option (List ℕ)) (w : TurnState State) → Goes w (logged_if code text w)
logged_if-goes code None w = itself w
logged_if-goes code (Some text) w = logged-goes code text w

-- something is said that publishes nothing
pub announces-go : (w v : TurnState State) → Announces w v → Goes w v
announces-go w v a =
    still w v (ap (λ (s : State). s.board) a.state) (ap (λ (s : State). s.files) a.state) (ap (λ (s : State). s.desk.jobs) a.state) a.unpublished

pub announced-goes : (r : Result (TurnState State) Counter) (w : TurnState State) → IfOk r (Announces w) → IfOk r (Goes w)
announced-goes r w said = IfOk-weaker r (Announces w) (Goes w) said (announces-go w)

-- behind a step that goes
pub behind-goes : (w v : TurnState State) (r : Result (TurnState State) Counter) → Goes w v → IfOk r (Goes v) → IfOk r (Goes w)
behind-goes w v r first next = IfOk-weaker r (Goes v) (Goes w) next (λ u p. goes-on w v u first p)

-- the client is told something that publishes nothing
pub notified-goes : (message : Outgo) (w : TurnState State) → published_by (notification_of message) ≡ None
    → Goes w (written (notification_of message) w)
unfolding written
notified-goes message w none = still w _ refl refl refl (written-unpublished (notification_of message) w none)

-- it is asked for something
pub asking-goes : (message : Outgo) (handler : ReqHandler) (w : TurnState State) → IfOk (at_client (asked_for message handler) w) (Goes w)
asking-goes message handler w =
    announced-goes (at_client (asked_for message handler) w) w (saying.asking-owes Announces announcing message handler w)

pub asked_if-goes : (wanted : Bool) (message : Outgo) (w : TurnState State) → IfOk (asked_if wanted message w) (Goes w)
asked_if-goes wanted message w = announced-goes (asked_if wanted message w) w (saying.asked_if-owes Announces announcing wanted message w)

pub told-go : (told : List Telling) (w : TurnState State) → IfOk (tellings_told told w) (Goes w)
told-go told w = announced-goes (tellings_told told w) w (saying.told-owe Announces announcing told w)

pub warned-goes : (texts : List (List ℕ)) (w : TurnState State) → Goes w (warned texts w)
unfolding warned
warned-goes [] w = itself w
warned-goes (text ∷ texts) w =
    let v : TurnState State = written (notification_of (ShowMessage text Warning)) w in
    goes-on w v _ (notified-goes (ShowMessage text Warning) w refl) (warned-goes texts v)
