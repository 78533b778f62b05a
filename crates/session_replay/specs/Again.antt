-- What a run has written, and when another run is given the same events.
use Rattle.std.specs.Prelude.{◌≡◌, ℕ, List, [], ◌∷◌, ◌++◌, replicate, Bool, Some, Result, Ok, Err}
use Rattle.std.proofs.Common.{inr}
use Rattle.lsp_frame.specs.Reader.{Reader}
use Rattle.ra_config.specs.Config.{ConfigData}
use Rattle.session_port.specs.Jobs.{Jobs}
use Rattle.session_port.specs.Record.{HostCall, given_in}
use Rattle.session_port.specs.declared.event.HostEvent.{HostEvent}
use Rattle.session_port.specs.declared.event.HostEvent.TheVariants.{Ended}
use Rattle.session_laws.specs.Course.{Course}
use Rattle.session_laws.specs.Meaning.{Meaning}
use Rattle.session_laws.specs.Run.{Turn, Told, Ends, IsRun, empty_reader}
use Rattle.session_laws.specs.State.{State}
use Rattle.session_laws.specs.SessionError.{SessionError}
use Rattle.session_laws.specs.SessionError.TheVariants.{ClientExited, BadFrame, BadMessage, HostFault}
use Rattle.session_laws.specs.SessionError.TheVariants.{WriteFault, NoMemory}

-- the turn that was written, and whose commands were not taken, where a run ended so
abbrev pub last_written : (T : Type 0) (meaning : Meaning) (state : State) (to : List HostEvent → Course) (used : ℕ)
    (old new : Told) (honest : Bool) (out : Jobs) (result : Result T SessionError)
    → Ends meaning state to used old new honest out result → List Turn
last_written T meaning state to used old new honest out (Err HostFault) (inr broken) = broken.turn ∷ []
last_written T meaning state to used old new honest out (Err NoMemory) (inr broken) = broken.turn ∷ []
last_written T meaning state to used old new honest out other ends = []

-- all turns that a run has written
abbrev pub written : {T : Type 0} {meaning : Meaning} {config : ConfigData} {reader : Reader} {old new : Told}
    {honest : Bool} {result : Result T SessionError} → IsRun meaning config reader old new honest result → List Turn
written {T} {meaning} {config} {reader} {old} {new} {honest} {result} run = run.stretch.turns
    ++ last_written T meaning run.last run.to run.used_last run.told_last new honest run.out_last result run.ends

-- the events alone have decided how a run ended
abbrev pub IsDecided : {T : Type 0} → Result T SessionError → Type 0
IsDecided (Ok x) = Unit {0}
IsDecided (Err ClientExited) = Unit {0}
IsDecided (Err (BadFrame at)) = Unit {0}
IsDecided (Err (BadMessage at)) = Unit {0}
IsDecided other = ⊥

-- memory didn't run out, and neither the host nor the sink failed
abbrev pub IsUndisturbed : {T : Type 0} → Result T SessionError → Type 0
IsUndisturbed (Err HostFault) = ⊥
IsUndisturbed (Err WriteFault) = ⊥
IsUndisturbed (Err NoMemory) = ⊥
IsUndisturbed other = Unit {0}

-- a whole run of a session that holds no bytes, over a host that tells its calls: those before the run, and then
-- those of the run
pub record ToldRun {T : Type 0} (meaning : Meaning) (config : ConfigData) (result : Result T SessionError)
    : Type 0 where
  pub old : Told
  pub new : Told
  pub honest : Bool
  pub run : IsRun meaning config empty_reader old new honest result
  pub before : List HostCall
  pub calls : List HostCall
  pub told_before : old.calls ≡ Some before
  pub told_behind : new.calls ≡ Some (before ++ calls)

-- the second calls gave the events of the first ones, as many as were asked for, and behind them only that there are
-- no more
pub record GivesAgain (first second : List HostCall) : Type 0 where
  pub left : List HostEvent
  pub ends : ℕ
  pub is : given_in second ++ left ≡ given_in first ++ replicate ends Ended
