use Rattle.lsp_frame.proofs.Written.{cut_written, frames_written}
use Rattle.lsp_frame.proofs.laws.written_frames_are_cut.Goals as goal

pub returns-clause-cut : goal.returns-clause-cut
returns-clause-cut c = cut_written

pub returns-clause-frames : goal.returns-clause-frames
returns-clause-frames c = frames_written
