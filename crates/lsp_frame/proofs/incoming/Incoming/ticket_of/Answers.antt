use Rattle.std.proofs.Common.{◌∙◌}
use Rattle.lsp_frame.proofs.Rows.{ticket_of-view, distinct-view}
use Rattle.lsp_frame.proofs.incoming.Incoming.ticket_of.Goals as goal

pub returns-clause-value : goal.returns-clause-value
returns-clause-value c = c.copied.ensures ∙ c.get.ensures.value ∙ ticket_of-view _ _ c.self.view_is _ c.self.invariant c.args.id.now

pub returns-clause-distinct : goal.returns-clause-distinct
returns-clause-distinct c = distinct-view _ _ c.self.view_is _ c.self.invariant
