-- A call of the desk, as a step of the session.
use Rattle.std.proofs.Common.{◌≡◌, sym, ap, subst, ◌∙◌}
use Rattle.std.specs.Prelude.{Result, Ok}
use Rattle.session_port.proofs.Parts.{within_meets}
use Rattle.session_port.specs.Refines.{Refines}
use Rattle.session_port.specs.TurnState.{TurnState, lifted, put_back}
use Rattle.session_port.specs.Written.{Written}
use Rattle.session_port.specs.declared.fault.Counter.{Counter}
use Rattle.session_port.specs.declared.fault.TurnError.{TurnError}
use Rattle.session_model.specs.Board.{Board}
use Rattle.session_model.specs.Client.{Client}
use Rattle.session_model.specs.Desk.{Desk}
use Rattle.session_model.specs.Machine.{at_desk, desk_in, with_desk}
use Rattle.session_model.specs.Scene.{Scene}
use Rattle.session_model.specs.SessionFiles.{SessionFiles}
use Rattle.session_model.specs.State.{State, scene_in, scene_of}
use Rattle.workspaces.specs.Workspaces.{Workspaces}

pub desk_meets : {T : Type 0} (step : TurnState Desk → Result (TurnState Desk) Counter) (result : Result T TurnError) (before after : State) (desk desk_now : Desk)
    (out out_now : Written)
    → before.desk ≡ desk → after ≡ record before { desk = desk_now } → Refines result (step (record { state = desk; out = out })) desk_now out_now
    → Refines result (at_desk step (record { state = before; out = out })) after out_now
desk_meets step result before after desk desk_now out out_now was is h =
    subst (λ (s : State). Refines result (at_desk step (record { state = before; out = out })) s out_now) (sym is)
    (within_meets desk_in with_desk step result (record { state = before; out = out }) desk_now out_now
    (subst (λ (d : Desk). Refines result (step (record { state = d; out = out })) desk_now out_now) (sym was) h))

-- the same of a step that no counter can refuse
pub desk_gives : (step : TurnState Desk → TurnState Desk) (before after : State) (desk desk_now : Desk) (out out_now : Written)
    → before.desk ≡ desk → after ≡ record before { desk = desk_now } → record { state = desk_now; out = out_now } ≡ step (record { state = desk; out = out })
    → at_desk (λ d. Ok (step d)) (record { state = before; out = out }) ≡ Ok (record { state = after; out = out_now })
unfolding lifted
desk_gives step before after desk desk_now out out_now was is h =
    ap (λ (d : Desk). put_back with_desk before (Ok (step (record { state = d; out = out })))) was
    ∙ ap (λ (w : TurnState Desk). put_back with_desk before (Ok w)) (sym h)
    ∙ ap (λ (s : State). Ok (record { state = s; out = out_now })) (sym is)

-- the same of a step that meets the present
scene_met : (state : State) (client : Client) (files : SessionFiles) (workspaces : Workspaces) (board : Board)
    → state.client ≡ client → state.files ≡ files → state.workspaces ≡ workspaces → state.board ≡ board
    → scene_in client files workspaces board ≡ scene_of state
scene_met state client files workspaces board c f w b =
    ap (λ (x : Client). scene_in x files workspaces board) (sym c)
    ∙ ap (λ (x : SessionFiles). scene_in state.client x workspaces board) (sym f)
    ∙ ap (λ (x : Workspaces). scene_in state.client state.files x board) (sym w)
    ∙ ap (λ (x : Board). scene_in state.client state.files state.workspaces x) (sym b)

pub present_meets : {T : Type 0} (step : Scene → TurnState Desk → Result (TurnState Desk) Counter) (result : Result T TurnError) (before after : State)
    (client : Client) (files : SessionFiles) (workspaces : Workspaces) (board : Board) (desk desk_now : Desk) (out out_now : Written)
    → before.client ≡ client → before.files ≡ files → before.workspaces ≡ workspaces → before.board ≡ board → before.desk ≡ desk
    → after ≡ record before { desk = desk_now }
    → Refines result (step (scene_in client files workspaces board) (record { state = desk; out = out })) desk_now out_now
    → Refines result (at_desk (step (scene_of before)) (record { state = before; out = out })) after out_now
present_meets step result before after client files workspaces board desk desk_now out out_now c f w b was is h =
    desk_meets (step (scene_of before)) result before after desk desk_now out out_now was is
    (subst (λ (x : Scene). Refines result (step x (record { state = desk; out = out })) desk_now out_now) (scene_met before client files workspaces board c f w b) h)
