-- What a batch asks of the analysis: jobs that are for no request and none of the host's own.
use Rattle.std.proofs.Common.{inr, ◌≡◌, ℕ, List, [], ◌∷◌, ◌++◌, Bool, true, false, refl}
use Rattle.std.specs.Prelude.{Option, None, Some, is_some, Ok, IfOk, if◌then◌else◌}
use Rattle.std.specs.List.{flat_map}
use Rattle.docs_vfs.specs.declared.file_kinds.FileId.{FileId}
use Rattle.method_table.specs.declared.class.PoolClass.TheVariants.{Latency}
use Rattle.op_board.specs.Board.{next_generation}
use Rattle.session_port.specs.Kinds.{ticket_of_job}
use Rattle.session_port.specs.TurnState.{TurnState, and_then}
use Rattle.session_port.specs.declared.job.JobKind.{JobKind}
use Rattle.desk.specs.Steps.{handed_over}
use Rattle.desk_laws.proofs.Results.{IfOk-and_then, IfOk-if, IfOk-weaker}
use Rattle.session_model.specs.Diagnosing.{batch_counted, batch_kinds, is_batch_due, list_kinds, lists_asked, shows_diagnostics, slice_count, slice_kinds, slices, subscribed}
use Rattle.session_model.specs.Diagnosing.{tests_asked}
use Rattle.session_model.specs.Machine.{all_asked, at_board, at_desk, batch_asked, batch_done}
use Rattle.session_model.specs.State.{State, snapshot_of}
use Rattle.session_model.specs.Status.{is_quiescent}
use Rattle.session_model.specs.declared.facts.FactsBefore.{FactsBefore}
use Rattle.session_laws.specs.Beside.{Aside}
use Rattle.session_laws.specs.Invariant.{is_build, is_fetch, is_load}
use Rattle.session_laws.proofs.Asides.{aside-none, aside-on, aside-speaks}
use Rattle.session_laws.proofs.Saying.{speaking}
use Rattle.session_laws.proofs.Starting.{one-starts}

-- a job for no request, and none of the host's own
record IsQuestion (kind : JobKind) : Type 0 where
  untold : is_some (ticket_of_job kind) ≡ false
  no_fetch : is_fetch kind ≡ false
  no_build : is_build kind ≡ false
  no_load : is_load kind ≡ false

abbrev AreQuestions : List JobKind → Type 0
AreQuestions [] = Unit {0}
AreQuestions (kind ∷ kinds) = IsQuestion kind × AreQuestions kinds

questions-append : (first later : List JobKind) → AreQuestions first → AreQuestions later → AreQuestions (first ++ later)
questions-append [] later f l = l
questions-append (kind ∷ first) later (is, f) l = (is, questions-append first later f l)

questions-if : (b : Bool) (kinds others : List JobKind) → AreQuestions kinds → AreQuestions others → AreQuestions (if b then kinds else others)
questions-if true kinds others k o = k
questions-if false kinds others k o = o

slice-questions : (generation : ℕ) (fetched : Bool) (files : List FileId) → AreQuestions (slice_kinds generation fetched files)
slice-questions generation true files = (
  record { untold = refl; no_fetch = refl; no_build = refl; no_load = refl },
  (record { untold = refl; no_fetch = refl; no_build = refl; no_load = refl }, tt),
)
slice-questions generation false files = (record { untold = refl; no_fetch = refl; no_build = refl; no_load = refl }, tt)

list-questions : (generation : ℕ) (fetched : Bool) (lists : List (List FileId)) → AreQuestions (list_kinds generation fetched lists)
list-questions generation fetched [] = tt
list-questions generation fetched (files ∷ lists) =
    questions-append (slice_kinds generation fetched files) (list_kinds generation fetched lists) (slice-questions generation fetched files)
    (list-questions generation fetched lists)

asked-questions : (generation : Option ℕ) (s : State) → AreQuestions (lists_asked generation s)
asked-questions None s = tt
asked-questions (Some generation) s =
    list-questions generation (is_some s.workspaces.fetches.queue.last) (slices (slice_count s.client.settings) (subscribed s.files))

tests-questions : (files : List FileId) → AreQuestions (tests_asked files)
tests-questions [] = tt
tests-questions (file ∷ files) = (record { untold = refl; no_fetch = refl; no_build = refl; no_load = refl }, tt)

batch-questions : (s : State) → AreQuestions (batch_kinds s)
unfolding batch_kinds
batch-questions s =
    let lists : List JobKind = lists_asked (next_generation s.board) s in
    let tests : List JobKind = tests_asked (subscribed s.files) in
    questions-append (if shows_diagnostics s.client.settings then lists else [])
    (if s.client.settings.capabilities.test_explorer then tests else [])
    (questions-if (shows_diagnostics s.client.settings) lists [] (asked-questions (next_generation s.board) s) tt)
    (questions-if s.client.settings.capabilities.test_explorer tests [] (tests-questions (subscribed s.files)) tt)

-- ---- they are handed over beside what a turn answers

all-aside : (kinds : List JobKind) (w : TurnState State) → AreQuestions kinds → IfOk (all_asked kinds w) (Aside w)
unfolding all_asked
all-aside [] w are = aside-none w
all-aside (kind ∷ kinds) w (is, are) =
    IfOk-and_then (at_desk (handed_over (snapshot_of w.state) Latency kind) w) (all_asked kinds) (Aside w) (Aside w)
    (one-starts Latency kind (λ workspaces. workspaces) w is.untold
    (record { fetching = inr (is.no_fetch, refl); building = inr (is.no_build, refl); loading = inr (is.no_load, refl); waiting = λ h. h }))
    (λ v a. IfOk-weaker (all_asked kinds v) (Aside v) (Aside w) (all-aside kinds v are) (λ u b. aside-on w v u a b))

asked-aside : (w : TurnState State) → IfOk (batch_asked w) (Aside w)
unfolding batch_asked
asked-aside w =
    let v : TurnState State = at_board (batch_counted w.state.client.settings) w in
    IfOk-weaker (all_asked (batch_kinds w.state) v) (Aside v) (Aside w) (all-aside (batch_kinds w.state) v (batch-questions w.state))
    (λ u a. aside-on w v u (aside-speaks w v (speaking.board w (batch_counted w.state.client.settings w.state.board))) a)

pub batch-aside : (came : Bool) (facts : FactsBefore) (w : TurnState State) → IfOk (batch_done came facts w) (Aside w)
unfolding batch_done
batch-aside came facts w = IfOk-if (is_batch_due facts.quiescent (is_quiescent w.state.files w.state.workspaces) facts.processed came) (batch_asked w) (Ok w) (Aside w) (asked-aside w) (aside-none w)
