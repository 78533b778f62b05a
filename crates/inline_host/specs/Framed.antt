-- A source whose bytes are given frame by frame.
use Rattle.std.specs.Prelude.{◌≡◌, ◌<◌, ◌≤◌, ℕ, Bool, true, false, List, length, Option}
use Rattle.lsp_frame.specs.Frames.{cut_of}
use Rattle.lsp_frame.specs.declared.frame.Cut.{Cut}
use Rattle.lsp_frame.specs.declared.frame.Cut.TheVariants.{NeedMore, Bad, Frame}
use Rattle.session_port.specs.Record.{before_piece}
use Rattle.inline_host.specs.Inline.{IsDry}
use Rattle.inline_host.specs.declared.framed_source.NextPiece.{NextPiece}
use Rattle.inline_host.specs.declared.framed_source.NextPiece.TheVariants.{EndsAt, Lacks}

-- the bytes that were read and not given, those that the source has left, if it tells, how often it has failed, and
-- whether it is poisoned
pub record FramedData : Type 0 where
  pub held : List ℕ
  pub left : Option (List ℕ)
  pub faults : ℕ
  pub poisoned : Bool

-- the bytes not given yet
abbrev pub waiting : FramedData → Option (List ℕ)
waiting s = before_piece s.held s.left

-- a read that brought bytes, and one that found the end
abbrev pub IsRead : FramedData → FramedData → Bool → Type 0
IsRead old new true = (length old.held < length new.held) × (waiting new ≡ waiting old)
IsRead old new false = (new.held ≡ old.held) × (new.left ≡ old.left) × IsDry new.left

-- where the next piece of the bytes held ends
abbrev pub EndsBy : FramedData → ℕ → Cut → Type 0
EndsBy s end NeedMore = (end ≡ length s.held) × IsDry s.left
EndsBy s end Bad = end ≡ length s.held
EndsBy s end (Frame body_start body_end) = end ≡ body_end

abbrev pub EndsPiece : FramedData → ℕ → Type 0
EndsPiece s end = EndsBy s end (cut_of s.held)

-- what the bytes held show of the next piece: where it ends, or that some are lacking
abbrev pub Shows : FramedData → NextPiece → Type 0
Shows s (EndsAt end) = EndsPiece s end × (end ≤ length s.held)
Shows s (Lacks count) = (cut_of s.held ≡ NeedMore) × (0 < count)
