-- What a batch goes by stays behind the files of a turn, and the session doesn't come to be quiescent there.
use Rattle.std.proofs.Common.{◌≡◌, sym, ap, ◌∙◌, subst}
use Rattle.std.specs.Prelude.{Ok, is_some}
use Rattle.std.proofs.lemmas.Result.{IfOk-at_ok}
use Rattle.session_port.specs.TurnState.{TurnState}
use Rattle.desk.specs.Meaning.{Meaning}
use Rattle.workspaces.specs.Workspaces.{Workspaces}
use Rattle.session_model.specs.Machine.{Turning, step}
use Rattle.session_model.specs.OwnJobs.{before_quiet}
use Rattle.session_model.specs.Run.{Steps, Turn, turn_start}
use Rattle.session_model.specs.State.{State}
use Rattle.session_model.specs.Status.{is_quiescent}
use Rattle.session_model.specs.declared.input.Input.{Input}
use Rattle.session_model.specs.declared.input.Input.TheVariants.{Start, Next}
use Rattle.quiet_laws.specs.Rest.{Lasts}
use Rattle.quiet_laws.proofs.PartsOfTurns.{Behind, Later, Split, StartSplit, start-splits, step-splits}
use Rattle.quiet_laws.proofs.Resting.{MayStart, behind-may, may-quiet, start-may}

later-lasts : (workspaces : Workspaces) (w v : TurnState State) → Later workspaces w v → MayStart w.state.workspaces workspaces → Lasts w.state v.state
later-lasts workspaces w v later may =
    let closing : TurnState State = later.closing in
    let files : v.state.files ≡ w.state.files = later.closes.files ∙ later.leaves.files in
    let now : v.state.workspaces ≡ workspaces = later.closes.workspaces ∙ later.leaves.workspaces in
    record {
      files = files;
      settings = later.closes.settings ∙ later.leaves.settings;
      fetched = ap (λ (ws : Workspaces). is_some ws.fetches.queue.last) now ∙ ap is_some may.last;
      cleared = later.closes.cleared ∙ later.leaves.cleared;
      quiet = λ quiet. may-quiet w.state.files w.state.workspaces workspaces may (sym (λ i. is_quiescent (files i) (now i)) ∙ quiet);
    }

pub behind-lasts : (w v : TurnState State) → Behind w v → Lasts w.state v.state
behind-lasts w v behind = later-lasts _ w v behind.later (behind-may behind.may w.state.workspaces)

pub start-lasts : (s : State) (v : TurnState State) → StartSplit s v → Lasts s v.state
start-lasts s v split = later-lasts _ (turn_start s) v split.later (start-may split.discover split.may s.workspaces)

pub turn-lasts : (meaning : Meaning) (s : State) (turn : Turn) (new : State) → Steps meaning s turn new → Lasts (before_quiet meaning turn.input s).state new
turn-lasts meaning s turn new steps = by turn.input steps
  where
    out : TurnState State
    out = record { state = new; out = record { messages = turn.messages; commands = turn.commands } }

    by : (input : Input) → step meaning input (turn_start s) ≡ Ok out → Lasts (before_quiet meaning input s).state new
    by Start is = start-lasts s out (IfOk-at_ok (StartSplit s) is (start-splits meaning s))
    by (Next event) is =
        let split : Split meaning s event out = IfOk-at_ok (Split meaning s event) is (step-splits meaning s event) in
        subst (λ (t : Turning). Lasts t.state new) (sym split.before) (behind-lasts split.processed out split.behind)
