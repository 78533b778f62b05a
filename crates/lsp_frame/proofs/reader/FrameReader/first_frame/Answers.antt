use Rattle.std.proofs.Common.{ap, ◌∙◌}
use Rattle.lsp_frame.specs.Frames.{cut_of}
use Rattle.lsp_frame.specs.Reader.{Reader}
use Rattle.lsp_frame.proofs.Turns.{cut_is}
use Rattle.lsp_frame.proofs.reader.FrameReader.first_frame.Goals as goal

pub returns : goal.returns
returns c =
    cut_is _ _ _ _ c.cut_at.ensures c.len.ensures (rw c.as_slice.ensures at c.find_header-known.ensures.head)
    ∙ ap (λ (r : Reader). cut_of r.held) c.self.view_is
