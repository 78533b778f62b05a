use Rattle.std.proofs.Common.{◌≡◌, drop, false}
use Rattle.lsp_frame.specs.declared.frame.Cut.TheVariants.{NeedMore}
use Rattle.lsp_frame.specs.Frames.{cut_of}
use Rattle.lsp_frame.specs.Pieces.{stream_of}
use Rattle.lsp_frame.proofs.Readings.{Follows}
use Rattle.lsp_frame.proofs.pieces.read_pieces.Given as goal

abbrev pub invariant-loop-piece : goal.invariant-loop-piece
invariant-loop-piece l = record {
  follows : Follows l.messages l.reader (stream_of (drop l.piece-index l.pieces)) (stream_of l.pieces);
  sound : l.reader.failed ≡ false;
  waits : cut_of l.reader.held ≡ NeedMore;
}
