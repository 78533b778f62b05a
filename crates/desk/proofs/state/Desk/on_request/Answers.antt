use Rattle.desk.proofs.Tickets.{refused_again}
use Rattle.desk.proofs.state.Desk.on_request.Goals as goal

pub returns-in-AlreadyPending : goal.returns-in-AlreadyPending
returns-in-AlreadyPending g c =
    refused_again _ _ c.args.request c.args.self.now c.note.new.self c.refuse_pending.new.self _ _ c.in-AlreadyPending.ticket c.refuse_pending.result
    (rw c.in-AlreadyPending.is at c.in_ok-ticket.ensures.registers) c.in_ok-ticket.ensures.others c.refuse_pending.ensures
