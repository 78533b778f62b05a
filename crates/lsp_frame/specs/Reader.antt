-- What a reader is: where the bytes that it holds stand in the stream, and whether they begin with a fault.
use Rattle.std.specs.Prelude.{◌≡◌, ℕ, ◌+◌, Bool, true, false, List, ◌++◌, drop, slice_range, None, Some, is_none, if◌then◌else◌}
use Rattle.lsp_frame.specs.declared.fault.FrameFault.{FrameFault}
use Rattle.lsp_frame.specs.declared.fault.FrameFault.TheVariants.{BadFrame, BadMessage, NoMemory}
use Rattle.lsp_frame.specs.declared.frame.Cut.{Cut}
use Rattle.lsp_frame.specs.declared.frame.Cut.TheVariants.{NeedMore, Bad, Frame}
use Rattle.lsp_frame.specs.declared.message.Message.{Message}
use Rattle.lsp_frame.specs.Frames.{cut_of, frame, frames_from}
use Rattle.lsp_frame.specs.Rules.{message_of}

-- where the first byte that is held stands in the stream, the bytes held, and whether a fault was answered
pub record Reader : Type 0 where
  pub place : ℕ
  pub held : List ℕ
  pub failed : Bool

-- a reader that is fed a piece: after a fault nothing is added
abbrev pub fed : Reader → List ℕ → Reader
fed r piece = if r.failed then r else record { place = r.place; held = r.held ++ piece; failed = false }

-- bytes begin with a fault where they are no frame, or where the first frame's body is no message
abbrev pub faulty_by : List ℕ → Cut → Bool
faulty_by held NeedMore = false
faulty_by held Bad = true
faulty_by held (Frame start end) = is_none (message_of (slice_range held start end))

-- the same of some bytes
unfoldable pub is_faulty : List ℕ → Bool
is_faulty held = faulty_by held (cut_of held)

-- the fault that such bytes are, at this place
abbrev pub fault_by : ℕ → Cut → FrameFault
fault_by at NeedMore = BadFrame at
fault_by at Bad = BadFrame at
fault_by at (Frame start end) = BadMessage at

-- the fault that a reader that has failed answers
abbrev pub fault_of : Reader → FrameFault
fault_of r = fault_by r.place (cut_of r.held)

-- the first frame's message is given, and the frame's bytes are held no more
pub record GivesMessage (old new : Reader) (message : Message) : Type 0 where
  pub start : ℕ
  pub end : ℕ
  pub body : List ℕ
  pub whole : cut_of old.held ≡ Frame start end
  pub body_is : body ≡ slice_range old.held start end
  pub reads : message_of body ≡ Some message
  pub after : new ≡ record { place = old.place + end; held = drop end old.held; failed = false }
  pub sound : old.failed ≡ false
  pub frames : (more : List ℕ) → frames_from old.place (old.held ++ more) ≡ frame old.place body (frames_from new.place (new.held ++ more))

-- what is held is no frame
pub record IsBadFrame (old new : Reader) (at : ℕ) : Type 0 where
  pub bad : cut_of old.held ≡ Bad
  pub at_is : at ≡ old.place
  pub after : new ≡ record old { failed = true }

-- the body of the frame that is held is no message
pub record IsBadMessage (old new : Reader) (at : ℕ) : Type 0 where
  pub start : ℕ
  pub end : ℕ
  pub whole : cut_of old.held ≡ Frame start end
  pub none : message_of (slice_range old.held start end) ≡ None
  pub at_is : at ≡ old.place
  pub after : new ≡ record old { failed = true }

-- a whole frame is held, and there is no memory for its message
pub record WantsMemory (old new : Reader) : Type 0 where
  pub start : ℕ
  pub end : ℕ
  pub whole : cut_of old.held ≡ Frame start end
  pub same : new ≡ old

-- when each fault comes, and what it leaves
abbrev pub FaultIs : Reader → Reader → FrameFault → Type 0
FaultIs old new (BadFrame at) = IsBadFrame old new at
FaultIs old new (BadMessage at) = IsBadMessage old new at
FaultIs old new NoMemory = WantsMemory old new
