-- What a request that comes leaves.
use Rattle.std.proofs.Common.{◌≡◌, ℕ, true, false, Ok, refl, sym, ap, subst, ◌∙◌}
use Rattle.std.specs.Prelude.{is_some, List, Result, Some}
use Rattle.serde_json.specs.Data.{Data}
use Rattle.lsp_frame.specs.declared.incoming.Registered.TheVariants.{New, AlreadyPending}
use Rattle.lsp_frame.specs.declared.message.Request.{Request}
use Rattle.lsp_frame.specs.Pending.{Pending, IsAbove, Registers, completed, id_of, is_pending, registered}
use Rattle.lsp_frame.proofs.InStep.{ticket_of-is, waits-completed}
use Rattle.lsp_frame.specs.declared.message.RequestId.{RequestId}
use Rattle.session_port.specs.Refines.{Refines, RefinesTotal}
use Rattle.session_port.specs.TurnState.{TurnState, replied}
use Rattle.session_port.specs.declared.fault.Counter.{Counter}
use Rattle.session_port.specs.declared.fault.TurnError.{TurnError}
use Rattle.session_port.specs.Written.{Written}
use Rattle.desk.specs.Desk.{Desk}
use Rattle.desk.specs.Meaning.{Meaning}
use Rattle.desk.specs.Replies.{already_pending}
use Rattle.desk.specs.Steps.{requested, request_admitted, noted}
use Rattle.desk.specs.Scene.{Scene}

-- a request whose id waits
pub requested_again : (meaning : Meaning) (scene : Scene) (r : Request) (state new : Desk) (out : Written) (other : ℕ)
    → Registers state.turns r.id state.pending new.pending (AlreadyPending other)
    → new ≡ record state { pending = new.pending } → requested meaning scene r (record { state = state; out = out }) ≡ Ok
    (replied (already_pending r.id) (record { state = new; out = out }))
unfolding requested
requested_again meaning scene r state new out other registers others =
    let same : new ≡ state = others ∙ ap (λ p. record state { pending = p }) registers.1 in
    let waits : is_pending r.id state.pending ≡ true = ap is_some registers.0 in
    rw (waits, same) refl

-- it is refused under the id that waits
pub refused_again : {T : Type 0} (meaning : Meaning) (scene : Scene) (r : Request) (state mid new : Desk) (out out_now : Written) (ticket : ℕ)
    (result : Result T TurnError)
    → Registers state.turns r.id state.pending mid.pending (AlreadyPending ticket) → mid ≡ record state { pending = mid.pending }
    → ((id : RequestId) → id_of ticket mid.pending ≡ Some id → RefinesTotal result (replied (already_pending id) (record { state = mid; out = out })) new out_now)
    → Refines result (requested meaning scene r (record { state = state; out = out })) new out_now
refused_again meaning scene r state mid new out out_now ticket result registers others refused =
    let waits : id_of ticket mid.pending ≡ Some r.id = ap (id_of ticket) registers.1 ∙ ticket_of-is ticket r.id state.pending registers.0 in
    subst (λ (m : Result (TurnState Desk) Counter). Refines result m new out_now) (sym (requested_again meaning scene r state mid out ticket registers others))
    (refused r.id waits)

-- and one whose id is new
pub requested_new : (meaning : Meaning) (scene : Scene) (r : Request) (state new : Desk) (out : Written)
    → Registers state.turns r.id state.pending new.pending New → new ≡ record state { pending = new.pending }
    → requested meaning scene r (record { state = state; out = out }) ≡ request_admitted meaning scene r.method r.params (record { state = new; out = out })
unfolding requested noted
requested_new meaning scene r state new out registers others =
    let after : new ≡ record state { pending = registered state.turns r.id state.pending } = others ∙ ap (λ p. record state { pending = p }) registers.1 in
    let waits : is_pending r.id state.pending ≡ false = ap is_some registers.0 in
    rw (waits, after) refl

-- what closing by a ticket leaves
pub completed_above : (n ticket : ℕ) (p q : Pending) → q ≡ completed ticket p → IsAbove n p → IsAbove n q
completed_above n ticket p q is h = rw is (record { below = λ other id waits. h.below other id (waits-completed ticket other id p waits).before })
