-- A call of what is agreed with the client, as a step of the session.
use Rattle.std.proofs.Common.{◌≡◌, sym, subst}
use Rattle.std.specs.Prelude.{Result}
use Rattle.session_port.proofs.Parts.{within_meets}
use Rattle.session_port.specs.Refines.{Refines}
use Rattle.session_port.specs.TurnState.{TurnState}
use Rattle.session_port.specs.Written.{Written}
use Rattle.session_port.specs.declared.fault.Counter.{Counter}
use Rattle.session_port.specs.declared.fault.TurnError.{TurnError}
use Rattle.session_model.specs.Client.{Client}
use Rattle.session_model.specs.Machine.{at_client, client_in, with_client}
use Rattle.session_model.specs.State.{State}

pub client_meets : {T : Type 0} (step : TurnState Client → Result (TurnState Client) Counter) (result : Result T TurnError) (before after : State)
    (client client_now : Client) (out out_now : Written)
    → before.client ≡ client → after ≡ record before { client = client_now } → Refines result (step (record { state = client; out = out })) client_now out_now
    → Refines result (at_client step (record { state = before; out = out })) after out_now
client_meets step result before after client client_now out out_now was is h =
    subst (λ (s : State). Refines result (at_client step (record { state = before; out = out })) s out_now) (sym is)
    (within_meets client_in with_client step result (record { state = before; out = out }) client_now out_now
    (subst (λ (d : Client). Refines result (step (record { state = d; out = out })) client_now out_now) (sym was) h))
