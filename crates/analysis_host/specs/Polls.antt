-- What a poll tells, and how polls are counted.
use Rattle.std.specs.Prelude.{◌≡◌, ◌<◌, ◌⊎◌, ℕ, ◌+◌, ◌-◌, ◌^◌, Option, None, Some, min}

-- one more, up to the greatest number of 64 bits
abbrev pub Counts : ℕ → ℕ → Type 0
Counts before now = now ≡ min (before + 1) (2 ^ 64 - 1)

-- the last number that was given
abbrev pub last_seen : Option ℕ → Option ℕ → Option ℕ
last_seen before None = before
last_seen before (Some saw) = Some saw

-- at least one poll was made
abbrev pub HasPolled : ℕ → ℕ → Type 0
HasPolled before now = (before < now) ⊎ (now ≡ 2 ^ 64 - 1)
