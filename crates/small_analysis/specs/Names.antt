-- Names of a text.
use Rattle.std.specs.Prelude.{◌≡◌, ◌<◌, ◌≤◌, ℕ, ◌+◌, ◌-◌, ◌==◌, ◌||◌, Bool, true, false, not, List, [], ◌∷◌, length}
use Rattle.std.specs.Prelude.{take, drop, slice_index, slice_range, if◌then◌else◌, Option, Some, None}
use Rattle.std.specs.List.{prefix_len, suffix_len}
use Rattle.std.specs.Char.{is_ascii_alphanumeric, is_ascii_digit}

-- an ASCII letter, a digit or `_`
abbrev pub is_word_byte : ℕ → Bool
is_word_byte b = is_ascii_alphanumeric b || b == 95

-- where the word bytes begin that end at a place
abbrev pub run_start : List ℕ → ℕ → ℕ
run_start text offset = offset - suffix_len is_word_byte (take offset text)

-- where the word bytes end that begin at a place
abbrev pub run_end : List ℕ → ℕ → ℕ
run_end text offset = offset + prefix_len is_word_byte (drop offset text)

-- the longest run of word bytes that holds a place or ends at it
abbrev pub run_at : List ℕ → ℕ → List ℕ
run_at text offset = slice_range text (run_start text offset) (run_end text offset)

-- a run is a name where it has a byte and doesn't begin with a digit
abbrev pub is_name : List ℕ → Bool
is_name [] = false
is_name (b ∷ rest) = not (is_ascii_digit b)

abbrev pub named : List ℕ → Option (List ℕ)
named run = if is_name run then Some run else None

-- the name that holds a place or ends at it
abbrev pub name_at : List ℕ → ℕ → Option (List ℕ)
name_at text offset = named (run_at text offset)

-- the name from one place up to another
abbrev pub name_of : List ℕ → ℕ → ℕ → Option (List ℕ)
name_of text from to = named (slice_range text from to)

-- the bytes from one place up to another are word bytes, hold a place or end at it, and neither side has one more
pub record IsRunAt (text : List ℕ) (place from to : ℕ) : Type 0 where
  pub holds : from ≤ place
  pub reaches : place ≤ to
  pub within : to ≤ length text
  pub words : (k : ℕ) → from ≤ k → k < to → is_word_byte (slice_index text k) ≡ true
  pub before : 0 < from → is_word_byte (slice_index text (from - 1)) ≡ false
  pub after : to < length text → is_word_byte (slice_index text to) ≡ false
