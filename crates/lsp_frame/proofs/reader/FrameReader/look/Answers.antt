use Rattle.std.proofs.Common.{ap, ◌∙◌}
use Rattle.lsp_frame.specs.Frames.{cut_of}
use Rattle.lsp_frame.specs.Reader.{Reader}
use Rattle.lsp_frame.proofs.Turns.{cut_is, lies_within}
use Rattle.lsp_frame.proofs.reader.FrameReader.look.Goals as goal

pub returns-clause-cut : goal.returns-clause-cut
returns-clause-cut c =
    cut_is _ _ _ _ c.cut_at.ensures c.len.ensures (rw c.as_slice.ensures at c.find_header-self-inside.ensures.head)
    ∙ ap (λ (r : Reader). cut_of r.held) c.self.view_is

pub returns-clause-within : goal.returns-clause-within
returns-clause-within c = lies_within _ _ (returns-clause-cut c)
