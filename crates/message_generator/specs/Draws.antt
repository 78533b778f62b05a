-- The numbers that are drawn: a linear congruential generator of 64 bits.
use Rattle.std.specs.Prelude.{ℕ, ◌+◌, ◌*◌, ◌/◌, ◌%◌, ◌^◌}

-- the state after a draw
unfoldable pub next_state : ℕ → ℕ
next_state state = ((state * 6364136223846793005) % 2 ^ 64 + 1442695040888963407) % 2 ^ 64

-- what was drawn, by the state after it
unfoldable pub drawn : ℕ → ℕ
drawn state = state / 2 ^ 33
