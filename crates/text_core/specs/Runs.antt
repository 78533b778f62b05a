-- Runs of ASCII characters.
use Rattle.std.specs.Prelude.{ℕ, ◌+◌, ◌≤◌, ◌<◌, List, length, slice_index}

-- so many bytes from a place on are ASCII characters
pub record IsAsciiRun (line : List ℕ) (place count : ℕ) : Type 0 where
  pub within : place + count ≤ length line
  pub ascii : (n : ℕ) → n < count → slice_index line (place + n) < 128
