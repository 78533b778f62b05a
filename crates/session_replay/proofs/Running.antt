-- The session of a record is run.
use Rattle.std.proofs.Common.{◌≡◌, ℕ, Bool, false, List, [], ◌∷◌, ◌++◌, refl, sym, ap, subst, ◌∙◌, arith}
use Rattle.std.specs.Prelude.{⊤, Option, None, Some, IsSome, Result, Err}
use Rattle.ra_config.specs.Config.{ConfigData}
use Rattle.session_port.specs.Record.{HostCall, Rose, given_in}
use Rattle.session_port.specs.declared.event.HostEvent.{HostEvent}
use Rattle.host_fakes.specs.Script.{without_ends}
use Rattle.session_laws.specs.Headline.{EndsByCause, IsAnswered}
use Rattle.session_laws.specs.Meaning.{Meaning}
use Rattle.session_laws.specs.Run.{Told, IsRun, empty_reader, told_of}
use Rattle.session_laws.specs.SessionError.{SessionError}
use Rattle.session_laws.specs.SessionError.TheVariants.{HostFault, WriteFault, NoMemory}
use Rattle.session_laws.proofs.Answered.{run-answered}
use Rattle.session_laws.proofs.Causes.{answered-caused, answered-complete}
use Rattle.trust_laws.proofs.Trusted.{run-trusted}
use Rattle.session.specs.Ran.{RanSession}
use Rattle.session.proofs.Unstarted.{unstarted}
use Rattle.session_record.specs.declared.start.StartConfig.{StartConfig}
use Rattle.session_replay.specs.Beginning.{config_of}
use Rattle.session_replay.specs.Replaying.{RunsAgain, replay_result}
use Rattle.session_replay.specs.declared.error.ReplayError.TheVariants.{Session}
use Rattle.session_replay.proofs.Fronts.{front}

-- a run has all that is promised of a session, whose errors have their causes
pub ran-session : (meaning : Meaning) (config : ConfigData) (old new : Told) (honest : Bool) (HostFailed SinkFailed : Type 0) (outcome : Result ⊤ SessionError)
    → IsRun meaning config empty_reader old new honest outcome → (outcome ≡ Err HostFault → HostFailed) → (outcome ≡ Err WriteFault → SinkFailed)
    → RanSession meaning config empty_reader old new honest HostFailed SinkFailed outcome
ran-session meaning config old new honest HostFailed SinkFailed outcome run host sink =
    let headline : IsAnswered {T = ⊤} meaning config empty_reader old new honest outcome =
    run-answered ⊤ meaning config empty_reader old new honest outcome run in
    let end : EndsByCause {T = ⊤} empty_reader old.calls new.calls outcome =
    answered-caused ⊤ meaning config empty_reader old new honest outcome headline in
    record {
      run = run;
      end = end;
      complete = answered-complete ⊤ meaning config empty_reader old new honest HostFailed SinkFailed outcome headline end host sink;
      headline = headline;
      quiet = run-trusted ⊤ meaning config empty_reader old new honest outcome run;
    }

-- a host that never fails has no fault
pub never-rose : Rose 0 0 → ⊥
never-rose h = absurd (omega (arith, h))

-- a host that was made of these events was asked by a run
pub runs-again : (meaning : Meaning) (begin : StartConfig) (config : ConfigData) (events left : List HostEvent) (calls : List HostCall)
    (old new : Option (List (List ℕ))) (SinkFailed : Type 0) (outcome : Result ⊤ SessionError)
    → config_of begin ≡ Some config → without_ends (given_in calls ++ left) ≡ without_ends events
    → IsRun meaning config empty_reader (told_of (Some []) old) (told_of (Some calls) new) false outcome
    → (outcome ≡ Err HostFault → ⊥) → (outcome ≡ Err WriteFault → SinkFailed)
    → RunsAgain meaning begin events calls old new SinkFailed (replay_result outcome)
runs-again meaning begin config events left calls old new SinkFailed outcome has stays run host sink =
    let f = front (given_in calls) left events stays in
    record {
      config = config;
      config_is = has;
      left = f.left;
      ends = f.count;
      gives = f.gives;
      outcome = outcome;
      result_is = refl;
      ran = ran-session meaning config _ _ false ⊥ SinkFailed outcome run host sink;
    }

-- memory ran out before the session could begin
pub never-ran : (meaning : Meaning) (begin : StartConfig) (events : List HostEvent) (turns : Option (List (List ℕ))) (SinkFailed : Type 0)
    (o : Option ConfigData) → config_of begin ≡ o → IsSome o → RunsAgain meaning begin events [] turns turns SinkFailed (Err (Session NoMemory))
never-ran meaning begin events turns SinkFailed (Some config) is some = record {
  config = config;
  config_is = is;
  left = events;
  ends = 0;
  gives = more events;
  outcome = Err NoMemory;
  result_is = refl;
  ran = unstarted meaning config (told_of (Some []) turns) false ⊥ SinkFailed;
}
  where
    more : (es : List HostEvent) → es ≡ es ++ []
    more [] = refl
    more (e ∷ es) = ap (λ xs. e ∷ xs) (more es)
never-ran meaning begin events turns SinkFailed None is some = absurd cc

-- the same of a host that was new when the run began
pub runs-anew : (meaning : Meaning) (begin : StartConfig) (config : ConfigData) (events left : List HostEvent) (before calls : List HostCall)
    (old new : Option (List (List ℕ))) (SinkFailed : Type 0) (outcome : Result ⊤ SessionError)
    → before ≡ [] → config_of begin ≡ Some config → without_ends (given_in calls ++ left) ≡ without_ends (given_in before ++ events)
    → IsRun meaning config empty_reader (told_of (Some before) old) (told_of (Some calls) new) false outcome
    → (outcome ≡ Err HostFault → ⊥) → (outcome ≡ Err WriteFault → SinkFailed)
    → RunsAgain meaning begin events calls old new SinkFailed (replay_result outcome)
runs-anew meaning begin config events left before calls old new SinkFailed outcome none has stays run host sink =
    runs-again meaning begin config events left calls old new SinkFailed outcome has
    (stays ∙ ap (λ (cs : List HostCall). without_ends (given_in cs ++ events)) none)
    (subst (λ (cs : List HostCall). IsRun {T = ⊤} meaning config empty_reader (told_of (Some cs) old) (told_of (Some calls) new) false outcome) none run) host sink

pub never-ran-anew : (meaning : Meaning) (begin : StartConfig) (events : List HostEvent) (before : List HostCall) (turns : Option (List (List ℕ)))
    (SinkFailed : Type 0) → before ≡ [] → IsSome (config_of begin) → RunsAgain meaning begin events before turns turns SinkFailed (Err (Session NoMemory))
never-ran-anew meaning begin events before turns SinkFailed none some =
    subst (λ (cs : List HostCall). RunsAgain meaning begin events cs turns turns SinkFailed (Err (Session NoMemory))) (sym none)
    (never-ran meaning begin events turns SinkFailed (config_of begin) refl some)
