use Rattle.std.proofs.Common.{arith}
use Rattle.lsp_frame.proofs.Given.{registered-kept}
use Rattle.lsp_frame.proofs.outgoing.Outgoing.register.Goals as goal

pub invariant_of-self-2 : goal.invariant_of-self-2
invariant_of-self-2 g c = registered-kept _ _ _ c.self.invariant c.args.then (omega arith) (rw c.from.ensures at c.in_ok-insert.ensures.ok)
