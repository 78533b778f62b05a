use Rattle.std.proofs.Common.{sym, ◌∙◌}
use Rattle.lsp_frame.proofs.InStep.{some_not, completed-closed}
use Rattle.lsp_frame.proofs.Rows.{id_of-view, distinct-view, completed-view, left-kept}
use Rattle.lsp_frame.proofs.incoming.Incoming.complete.Goals as goal

pub returns-in_err-id-clause-value : goal.returns-in_err-id-clause-value
returns-in_err-id-clause-value c = c.from_residual.ensures ∙ c.in_err-id.ensures.value ∙ id_of-view _ _ c.self.view_is c.args.ticket

pub returns-in_err-id-clause-after : goal.returns-in_err-id-clause-after
returns-in_err-id-clause-after c = completed-view _ _ c.self.view_is _ c.args.ticket c.in_err-id.ensures.updates.0

pub returns-in_err-id-clause-by_id : goal.returns-in_err-id-clause-by_id
returns-in_err-id-clause-by_id c = λ id has. some_not id (c.in_err-id.ensures.value ∙ id_of-view _ _ c.self.view_is c.args.ticket ∙ has)

pub invariant_of-self-2 : goal.invariant_of-self-2
invariant_of-self-2 c =
    let value = c.in_ok-id.ensures.value ∙ id_of-view _ _ c.self.view_is c.args.ticket in
    left-kept _ _ c.self.view_is _ c.self.invariant _ _ c.args.ticket c.in_ok-id.id c.in_ok-id.ensures.updates.0 c.remove-2.ensures.updates.0 (sym value)

pub returns-clause-value : goal.returns-clause-value
returns-clause-value c = c.in_ok-id.ensures.value ∙ id_of-view _ _ c.self.view_is c.args.ticket

pub returns-clause-after : goal.returns-clause-after
returns-clause-after c = completed-view _ _ c.self.view_is _ c.args.ticket c.in_ok-id.ensures.updates.0

pub returns-clause-by_id : goal.returns-clause-by_id
returns-clause-by_id c = λ id has.
    returns-clause-after c ∙ completed-closed c.args.ticket id c.args.self.now (distinct-view _ _ c.self.view_is _ c.self.invariant) has
