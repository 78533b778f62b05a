use Rattle.lsp_frame.proofs.Streams.{ends}
use Rattle.lsp_frame.proofs.laws.frames_end.Goals as goal

pub returns-clause-place : goal.returns-clause-place
returns-clause-place c = λ at bytes. (ends at bytes).place

pub returns-clause-none : goal.returns-clause-none
returns-clause-none c = λ at bytes. (ends at bytes).none
