use Rattle.lsp_frame.proofs.Streams.{frames_from-step}
use Rattle.lsp_frame.proofs.laws.frames_go_on.Goals as goal

pub returns : goal.returns
returns c = frames_from-step
