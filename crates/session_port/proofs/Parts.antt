-- A step of a part, as a step of the whole.
use Rattle.std.proofs.Common.{◌≡◌, ap}
use Rattle.std.specs.Prelude.{Result, Ok, Err}
use Rattle.session_port.specs.Refines.{Refines, RefinesTotal}
use Rattle.session_port.specs.TurnState.{TurnState, put_back, lifted}
use Rattle.session_port.specs.Written.{Written}
use Rattle.session_port.specs.declared.fault.Counter.{Counter}
use Rattle.session_port.specs.declared.fault.TurnError.{TurnError}
use Rattle.session_port.specs.declared.fault.TurnError.TheVariants.{Exhausted, NoMemory}

-- where the part's call meets its step, so does the whole's
pub within_meets : {S P T : Type 0} (get : S → P) (put : P → S → S) (step : TurnState P → Result (TurnState P) Counter) (result : Result T TurnError)
    (w : TurnState S) (part : P) (out : Written)
    → Refines result (step (record { state = get w.state; out = w.out })) part out → Refines result (lifted get put step w) (put part w.state) out
unfolding lifted
within_meets get put step (Ok x) w part out h = ap (put_back put w.state) h
within_meets get put step (Err (Exhausted counter)) w part out h = ap (put_back put w.state) h
within_meets get put step (Err NoMemory) w part out h = tt
