use Rattle.std.proofs.Common.{sym}
use Rattle.lsp_frame.proofs.Rows.{free-view, registered-view, entered-kept}
use Rattle.lsp_frame.proofs.incoming.Incoming.register.Goals as goal

pub enter-requires : goal.enter-requires
enter-requires c = free-view _ _ c.self.view_is c.args.ticket c.requires

pub invariant_of-self-in-None : goal.invariant_of-self-in-None
invariant_of-self-in-None c =
    entered-kept _ _ c.self.view_is _ c.self.invariant _ _ c.args.ticket c.args.id c.in_ok-enter-in-None.ensures.ids.0 c.in_ok-enter-in-None.ensures.tickets.0 c.requires
    (sym c.in-None.ensures.value)

pub returns-in_ok-enter-in-None-clause-ok : goal.returns-in_ok-enter-in-None-clause-ok
returns-in_ok-enter-in-None-clause-ok c =
    (sym c.in-None.ensures.value, registered-view _ _ c.self.view_is _ c.args.ticket c.args.id c.in_ok-enter-in-None.ensures.ids.0)
