use Rattle.lsp_frame.proofs.Given.{none_given}
use Rattle.lsp_frame.proofs.outgoing.Outgoing.new_at.Goals as goal

pub invariant_of-result : goal.invariant_of-result
invariant_of-result g c = rw c.new.ensures (none_given c.args.given c.requires)
