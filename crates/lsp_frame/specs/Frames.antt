-- The first frame of a byte string, and all of its frames with their places.
use Rattle.std.specs.Prelude.{◌<◌, ◌≤◌, ℕ, zero, suc, ◌+◌, List, [], ◌∷◌, length, take, drop, nat_lt, slice_range, Option, None, Some, if◌then◌else◌}
use Rattle.lsp_frame.specs.declared.frame.Cut.{Cut}
use Rattle.lsp_frame.specs.declared.frame.Cut.TheVariants.{NeedMore, Bad, Frame}
use Rattle.lsp_frame.specs.declared.frame.Head.{Head}
use Rattle.lsp_frame.specs.declared.frame.Head.TheVariants.{Open, Broken, Body}
use Rattle.memchr.specs.Find.{OccursAt}
use Rattle.lsp_frame.specs.Find.{place_of}
use Rattle.lsp_frame.specs.Header.{body_size}

-- CR LF CR LF
abbrev pub empty_line : List ℕ
empty_line = 13 ∷ 10 ∷ 13 ∷ 10 ∷ []

-- a header ends within so many bytes, with its empty line
abbrev pub header_limit : ℕ
header_limit = 4096

-- these bytes
unfoldable pub window : List ℕ → List ℕ
window bytes = take header_limit bytes

-- a body of this size begins here
abbrev pub sized : ℕ → Option ℕ → Head
sized start None = Broken
sized start (Some size) = Body start (start + size)

-- what the header says, given the place of its empty line
unfoldable pub head_at : List ℕ → Option ℕ → Head
head_at bytes None = if nat_lt (length bytes) header_limit then Open else Broken
head_at bytes (Some place) = sized (place + 4) (body_size (take place bytes))

-- what the header at the front of some bytes says
unfoldable pub head_of : List ℕ → Head
head_of bytes = head_at bytes (place_of empty_line (window bytes))

-- the first frame, given its header and how many bytes there are
abbrev pub cut_at : ℕ → Head → Cut
cut_at len Open = NeedMore
cut_at len Broken = Bad
cut_at len (Body start end) = if nat_lt len end then NeedMore else Frame start end

-- the first frame of some bytes
unfoldable pub cut_of : List ℕ → Cut
cut_of bytes = cut_at (length bytes) (head_of bytes)

-- the frames of a stream, each with the place of its first byte, and then what is left: a part of a frame, or bytes that are no frame
pub data Frames : Type 0 where
  frame : ℕ → List ℕ → Frames → Frames
  rest : ℕ → List ℕ → Frames

-- the first frame, and those of the bytes after it
abbrev pub first_and : (ℕ → List ℕ → Frames) → ℕ → List ℕ → Cut → Frames
first_and later at bytes NeedMore = rest at bytes
first_and later at bytes Bad = rest at bytes
first_and later at bytes (Frame start end) = frame at (slice_range bytes start end) (later (at + end) (drop end bytes))

-- the same, with at most so many frames
unfoldable pub frames_within : ℕ → ℕ → List ℕ → Frames
frames_within zero at bytes = rest at bytes
frames_within (suc n) at bytes = first_and (frames_within n) at bytes (cut_of bytes)

-- the frames of bytes whose first one stands at this place
unfoldable pub frames_from : ℕ → List ℕ → Frames
frames_from at bytes = frames_within (length bytes) at bytes

-- the same frames, and then what comes of the bytes that are left
abbrev pub frames_on : Frames → (ℕ → List ℕ → Frames) → Frames
frames_on (frame at body later) on = frame at body (frames_on later on)
frames_on (rest at bytes) on = on at bytes

-- the bodies alone
abbrev pub bodies_of : Frames → List (List ℕ)
bodies_of (frame at body later) = body ∷ bodies_of later
bodies_of (rest at bytes) = []

-- the bytes that are left
abbrev pub rest_bytes : Frames → List ℕ
rest_bytes (frame at body later) = rest_bytes later
rest_bytes (rest at bytes) = bytes

-- the place of the first of these
abbrev pub rest_place : Frames → ℕ
rest_place (frame at body later) = rest_place later
rest_place (rest at bytes) = at

-- no empty line begins below this place
abbrev pub NoneBelow : List ℕ → ℕ → Type 0
NoneBelow bytes from = (k : ℕ) → k < from → ¬ OccursAt (window bytes) empty_line k

-- a frame lies within so many bytes
abbrev pub LiesWithin : Cut → ℕ → Type 0
LiesWithin NeedMore len = Unit {0}
LiesWithin Bad len = Unit {0}
LiesWithin (Frame start end) len = (start ≤ end) × (end ≤ len)
