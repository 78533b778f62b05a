-- What reading from a reader takes, and what writing to a writer leaves there.
use Rattle.std.specs.Prelude.{◌≡◌, ℕ, List, ◌++◌, Option, None, Some}
use Rattle.std.specs.Io.KnownBytes.{Keeps, Appends, Consumes, IsAtEnd}

-- the bytes that a reader has left, if it tells, those of them that were read ahead, and how often reading has failed
pub record InputData : Type 0 where
  pub left : Option (List ℕ)
  pub ahead : List ℕ
  pub faults : ℕ

-- the bytes that a writer holds, if it tells, and how often writing has failed
pub record OutputData : Type 0 where
  pub written : Option (List ℕ)
  pub faults : ℕ

-- a piece is taken from the front of what is left, and the end comes only where nothing is
abbrev pub IsTaken : Option (List ℕ) → Option (List ℕ) → Option (List ℕ) → Type 0
IsTaken old new None = Keeps old new × IsAtEnd old
IsTaken old new (Some piece) = Consumes old new piece

-- the front of a turn was written, maybe nothing or all of it, and nothing else
pub record BreaksOff (old new : Option (List ℕ)) (turn : List ℕ) : Type 0 where
  pub front : List ℕ
  pub rest : List ℕ
  pub parted : turn ≡ front ++ rest
  pub written : Appends old new front
