use Rattle.std.proofs.Common.{rules, ◌≡◌, [], true, false, ap, sym, subst, ◌∙◌}
use Rattle.session_port.specs.Refines.{RefinesTotal}
use Rattle.session_port.specs.TurnState.{TurnState}
use Rattle.session_model.specs.Diagnosing.{deleted_cleared}
use Rattle.session_model.specs.Machine.{at_board, effects_done}
use Rattle.session_model.specs.State.{State}
use Rattle.session_model.specs.Timing.{effects_for}
use Rattle.session_notices.proofs.Followed.{some_followed}
use Rattle.session_notices.proofs.filing.follow_files.Goals as goal

pub returns : goal.returns
returns c =
    let w : TurnState State = record { state = c.args.store.now; out = c.args.out.now } in
    let some : (c.args.changed.now ≡ []) → ⊥ = λ none. (let clash : false ≡ true = rw c.if-is_empty.false at (c.is_empty.ensures.1 none) in cc) in
    let is : c.in_ok-effects.effects ≡ effects_for c.args.store.now.client.settings c.args.changed.now c.args.store.now.workspaces = search rules in
    let mid : TurnState State = record { state = c.clear_deleted.new.store; out = c.args.out.now } in
    let cleared : mid ≡ at_board (deleted_cleared c.args.changed.now) w = search rules in
    subst (λ (v : TurnState State). RefinesTotal c.do_effects.result v c.do_effects.new.store c.do_effects.new.out)
    (ap (λ effects. effects_done effects mid) is
    ∙ ap (effects_done (effects_for c.args.store.now.client.settings c.args.changed.now c.args.store.now.workspaces)) cleared
    ∙ sym (some_followed c.args.changed.now w some)) c.do_effects.ensures
