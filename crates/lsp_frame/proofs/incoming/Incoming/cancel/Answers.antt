use Rattle.std.proofs.Common.{sym, ◌∙◌}
use Rattle.std.specs.Prelude.{Some}
use Rattle.lsp_frame.proofs.InStep.{ticket_of-is, closed-is}
use Rattle.lsp_frame.proofs.Rows.{ticket_of-view, completed-view, left-kept, closed-none}
use Rattle.lsp_frame.proofs.incoming.Incoming.cancel.Goals as goal

pub returns-in_err-ticket-clause-value : goal.returns-in_err-ticket-clause-value
returns-in_err-ticket-clause-value c = c.from_residual.ensures ∙ c.in_err-ticket.ensures.value ∙ ticket_of-view _ _ c.self.view_is _ c.self.invariant c.args.id.now

pub returns-in_err-ticket-clause-after : goal.returns-in_err-ticket-clause-after
returns-in_err-ticket-clause-after c =
    let none = c.in_err-ticket.ensures.value ∙ ticket_of-view _ _ c.self.view_is _ c.self.invariant c.args.id.now in
    c.self.view_is ∙ sym (closed-none c.args.id.now c.args.self.now (sym none))

pub invariant_of-self-2 : goal.invariant_of-self-2
invariant_of-self-2 c =
    let value = c.in_ok-ticket.ensures.value ∙ ticket_of-view _ _ c.self.view_is _ c.self.invariant c.args.id.now in
    left-kept _ _ c.self.view_is _ c.self.invariant _ _ c.in_ok-ticket.ticket c.args.id.now c.remove-2.ensures.updates.0 c.in_ok-ticket.ensures.updates.0
    (ticket_of-is c.in_ok-ticket.ticket c.args.id.now c.args.self.now (sym value))

pub returns-clause-value : goal.returns-clause-value
returns-clause-value c = c.in_ok-ticket.ensures.value ∙ ticket_of-view _ _ c.self.view_is _ c.self.invariant c.args.id.now

pub returns-clause-after : goal.returns-clause-after
returns-clause-after c =
    let value = c.in_ok-ticket.ensures.value ∙ ticket_of-view _ _ c.self.view_is _ c.self.invariant c.args.id.now in
    completed-view _ _ c.self.view_is _ c.in_ok-ticket.ticket c.remove-2.ensures.updates.0
    ∙ sym (closed-is c.args.id.now c.args.self.now (Some c.in_ok-ticket.ticket) (sym value))
