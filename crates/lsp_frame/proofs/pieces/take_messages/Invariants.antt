use Rattle.std.proofs.Common.{◌≡◌, ◌+◌, ℕ, List, ◌++◌, length}
use Rattle.lsp_frame.specs.Frames.{frames_from}
use Rattle.lsp_frame.specs.Pieces.{reading_of, behind}
use Rattle.lsp_frame.proofs.pieces.take_messages.Given as goal

abbrev pub invariant-messages : goal.invariant-messages
invariant-messages l = record {
  reading : (more : List ℕ) → behind l.messages (reading_of (frames_from l.reader.place (l.reader.held ++ more)))
      ≡ behind l.initial.messages (reading_of (frames_from l.initial.reader.place (l.initial.reader.held ++ more)));
  counted : l.reader.place + length l.reader.held ≡ l.initial.reader.place + length l.initial.reader.held;
}

abbrev pub decreases-messages : goal.decreases-messages
decreases-messages l = length l.reader.held
