use Rattle.lsp_frame.proofs.Cuts.{cut_more}
use Rattle.lsp_frame.proofs.laws.judged_frames_stay.Goals as goal

pub returns : goal.returns
returns c = cut_more
