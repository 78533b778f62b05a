use Rattle.lsp_frame.proofs.Given.{removed-kept}
use Rattle.lsp_frame.proofs.outgoing.Outgoing.complete.Goals as goal

pub invariant_of-self-2 : goal.invariant_of-self-2
invariant_of-self-2 g c = removed-kept _ _ _ c.self.invariant _ c.remove.ensures.map
