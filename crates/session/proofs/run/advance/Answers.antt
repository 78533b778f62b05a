use Rattle.std.proofs.Common.{refl, inl, [], sym}
use Rattle.std.proofs.lemmas.Result.{err_from_is_err_and}
use Rattle.session_laws.specs.Event.TheVariants.{Lsp}
use Rattle.session_laws.specs.Input.TheVariants.{Next}
use Rattle.session_laws.proofs.Stretches.{telling-none}
use Rattle.session.proofs.Endings.{breaks_at_once, ends-turn}
use Rattle.session.proofs.Advancing.{brings, goes-turn}
use Rattle.session.proofs.run.advance.Goals as goal

pub returns-in_err-message-clause-turn : goal.returns-in_err-message-clause-turn
returns-in_err-message-clause-turn g c = let p = err_from_is_err_and c.from_residual.result c.from_residual.ensures.1
    in rw (p.1, p.2) (inl (breaks_at_once _ _ _ refl))

pub returns-in-Ok-clause-turn : goal.returns-in-Ok-clause-turn
returns-in-Ok-clause-turn g c =
    let next = rw c.in-Message.is at c.in_ok-message.ensures in
    goes-turn _ (Next (Lsp c.in-Message.message)) [] _ _ _ _ _ _ _ _ _ _ _
    tt next.course refl (sym (telling-none _)) refl (λ _. tt) tt next.fed c.in-Ok.ensures.turn

pub returns-in-Err-clause-turn : goal.returns-in-Err-clause-turn
returns-in-Err-clause-turn g c =
    let next = rw c.in-Message.is at c.in_ok-message.ensures in
    ends-turn _ (Next (Lsp c.in-Message.message)) [] _ _ _ _ _ _ _ _ _ (g.H.Host.out c.args.host.now) (g.H.Host.out c.args.host.now) c.in-Err.error
    (brings [] (Next (Lsp c.in-Message.message)) _ _ tt next.course) (sym (telling-none _)) (λ _. tt) c.in-Err.ensures.turn
