use Rattle.std.proofs.Common.{◌∙◌}
use Rattle.lsp_frame.proofs.Rows.{id_of-view}
use Rattle.lsp_frame.proofs.incoming.Incoming.id_of.Goals as goal

pub returns : goal.returns
returns c = c.get.ensures.value ∙ id_of-view _ _ c.self.view_is c.args.ticket
