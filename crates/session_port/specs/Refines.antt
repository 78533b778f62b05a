-- What a call of the session answers, by what its part of the machine answers.
use Rattle.std.specs.Prelude.{◌≡◌, Result, Ok, Err}
use Rattle.session_port.specs.TurnState.{TurnState}
use Rattle.session_port.specs.Written.{Written}
use Rattle.session_port.specs.declared.fault.Counter.{Counter}
use Rattle.session_port.specs.declared.fault.TurnError.{TurnError}
use Rattle.session_port.specs.declared.fault.TurnError.TheVariants.{Exhausted, NoMemory}

-- the machine's answer; that memory ran out is free
abbrev pub Refines : {S T : Type 0} → Result T TurnError → Result (TurnState S) Counter → S → Written → Type 0
Refines (Ok x) machine state out = machine ≡ Ok (record { state = state; out = out })
Refines (Err (Exhausted counter)) machine state out = machine ≡ Err counter
Refines (Err NoMemory) machine state out = Unit {0}

-- the same of a part that no counter can refuse
abbrev pub RefinesTotal : {S T : Type 0} → Result T TurnError → TurnState S → S → Written → Type 0
RefinesTotal result machine state out = Refines result (Ok machine) state out
