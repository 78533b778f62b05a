-- What a stream that comes in pieces reads as.
use Rattle.std.specs.Prelude.{ℕ, List, [], ◌∷◌, ◌++◌, Option, None, Some}
use Rattle.std.specs.List.{flat_map}
use Rattle.std.specs.Global.{Vec}
use Rattle.lsp_frame.specs.declared.fault.FrameFault.{FrameFault}
use Rattle.lsp_frame.specs.declared.fault.FrameFault.TheVariants.{BadFrame, BadMessage}
use Rattle.lsp_frame.specs.declared.frame.Cut.{Cut}
use Rattle.lsp_frame.specs.declared.frame.Cut.TheVariants.{NeedMore, Bad, Frame}
use Rattle.lsp_frame.specs.declared.message.Message.{Message}
use Rattle.lsp_frame.specs.declared.pieces.Reading.{Reading}
use Rattle.lsp_frame.specs.Frames.{cut_of, Frames, frame, rest}
use Rattle.lsp_frame.specs.Rules.{message_of}

-- the stream that comes in these pieces
abbrev pub stream_of : List (Vec ℕ) → List ℕ
stream_of pieces = flat_map (λ piece. piece.items) pieces

-- bytes that are left are a fault where they are no frame
abbrev pub fault_at : ℕ → Cut → Option FrameFault
fault_at at NeedMore = None
fault_at at Bad = Some (BadFrame at)
fault_at at (Frame start end) = None

-- a message and what comes later, unless the body is none
abbrev pub message_first : ℕ → Option Message → Reading → Reading
message_first at None later = record { messages = []; fault = Some (BadMessage at) }
message_first at (Some m) later = record { messages = m ∷ later.messages; fault = later.fault }

-- the messages of frames up to the first fault, and that fault
abbrev pub reading_of : Frames → Reading
reading_of (frame at body later) = message_first at (message_of body) (reading_of later)
reading_of (rest at bytes) = record { messages = []; fault = fault_at at (cut_of bytes) }

-- the same behind messages that came before
abbrev pub behind : List Message → Reading → Reading
behind messages r = record { messages = messages ++ r.messages; fault = r.fault }
