use Rattle.lsp_frame.proofs.Rows.{none-view, none-kept}
use Rattle.lsp_frame.proofs.incoming.Incoming.new.Goals as goal

pub invariant_of-result : goal.invariant_of-result
invariant_of-result c = none-kept c.new.result.entries c.new-2.result.entries c.new.ensures.empty c.new-2.ensures.empty

pub returns : goal.returns
returns c = none-view c.new.result.entries c.new.ensures.empty
