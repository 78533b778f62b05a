-- The session at rest: what is not left to do where it is quiescent, and what a turn without a batch leaves then.
use Rattle.std.specs.Prelude.{◌≡◌, Bool, true, false, List, [], ◌∷◌, None, is_some}
use Rattle.std.specs.FinMap as map
use Rattle.desk.specs.Meaning.{Meaning}
use Rattle.session_model.specs.Diagnosing.{is_batch_due, subscribed}
use Rattle.session_model.specs.Machine.{Turning, came_or_went}
use Rattle.session_model.specs.OwnJobs.{before_quiet}
use Rattle.session_model.specs.Places.{rest_after}
use Rattle.session_model.specs.Run.{Turn}
use Rattle.session_model.specs.State.{State}
use Rattle.session_model.specs.Status.{is_quiescent}
use Rattle.session_model.specs.declared.input.Input.{Input}
use Rattle.session_model.specs.declared.input.Input.TheVariants.{Start, Next}

-- the session is quiescent
abbrev pub is_quiet : State → Bool
is_quiet s = is_quiescent s.files s.workspaces

-- no switch is wanted, and no crate data waits for its macros: neither for a load that is to start, nor for one in
-- progress
pub record IsSettled (s : State) : Type 0 where
  pub no_switch : s.workspaces.switch_wanted ≡ false
  pub none_asked : s.workspaces.loads.queue.waiting ≡ None
  pub none_waits : s.workspaces.loads.waiting ≡ None

-- ---- turns and their batches

-- a batch is due in a turn that stands so behind its files
abbrev pub is_due_at : Input → Turning → Bool
is_due_at Start t = false
is_due_at (Next event) t =
    is_batch_due t.facts.quiescent (is_quiet t.state) t.facts.processed (came_or_went (Next event))

-- this input asks for a batch
abbrev pub asks_batch : Meaning → Input → State → Bool
asks_batch meaning input s = is_due_at input (before_quiet meaning input s)

-- none of these turns does, from this state on
abbrev pub AsksNone : Meaning → State → List Turn → Type 0
AsksNone meaning s [] = Unit {0}
AsksNone meaning s (turn ∷ turns) =
    (asks_batch meaning turn.input s ≡ false) × AsksNone meaning (rest_after meaning turn.input s) turns

-- what a batch goes by stays from the one to the other, and the session doesn't come to be quiescent
pub record Lasts (s e : State) : Type 0 where
  pub files : e.files ≡ s.files
  pub settings : e.client.settings ≡ s.client.settings
  pub fetched : is_some e.workspaces.fetches.queue.last ≡ is_some s.workspaces.fetches.queue.last
  pub cleared : e.board.cleared ≡ s.board.cleared
  pub quiet : is_quiet e ≡ true → is_quiet s ≡ true

-- the session was quiescent, and the world, the open documents, those that are shown, whether a fetch has ended, and
-- which files were cleared are as they were
pub record IsCalm (old new : State) : Type 0 where
  pub quiet : is_quiet old ≡ true
  pub world : new.files.host.world ≡ old.files.host.world
  pub documents : map.keys new.files.versions ≡ map.keys old.files.versions
  pub files : subscribed new.files ≡ subscribed old.files
  pub fetched : is_some new.workspaces.fetches.queue.last ≡ is_some old.workspaces.fetches.queue.last
  pub cleared : new.board.cleared ≡ old.board.cleared
