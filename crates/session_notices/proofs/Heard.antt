-- What a notification tells.
use Rattle.std.proofs.Common.{◌≡◌, subst}
use Rattle.std.specs.Prelude.{Result}
use Rattle.lsp_frame.specs.declared.message.Notification.{Notification}
use Rattle.session_port.specs.Refines.{Refines}
use Rattle.session_port.specs.TurnState.{TurnState}
use Rattle.session_port.specs.Written.{Written}
use Rattle.session_port.specs.declared.fault.TurnError.{TurnError}
use Rattle.session_model.specs.Hearing.{heard_of}
use Rattle.session_model.specs.Machine.{noticed}
use Rattle.session_model.specs.State.{State}
use Rattle.session_model.specs.declared.heard.Heard.{Heard}

-- what is done for what is heard in a notification
pub noticed_as : {T : Type 0} (heard : Heard) (n : Notification) (result : Result T TurnError) (w : TurnState State) (state : State) (out : Written)
    → heard ≡ heard_of n
    → Refines result (noticed heard n.method w) state out → Refines result (noticed (heard_of n) n.method w) state out
noticed_as heard n result w state out is meets = subst (λ (x : Heard). Refines result (noticed x n.method w) state out) is meets
