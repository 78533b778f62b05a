use Rattle.lsp_frame.proofs.Streams.{continues}
use Rattle.lsp_frame.proofs.laws.any_cutting.Goals as goal

pub returns : goal.returns
returns c = continues
