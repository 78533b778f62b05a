-- How many steps a change of many files takes.
use Rattle.std.specs.Prelude.{ℕ, ◌+◌, ◌*◌, ◌^◌, ◌≤◌}

-- so many changes of a map that never has more than n entries, from so many steps to so many: for each at most three a
-- level of a tree whose height is at most twice the logarithm of n + 1
pub record AreQuick (count n old new : ℕ) : Type 0 where
  pub height : ℕ
  pub deep : 2 ^ height ≤ (n + 1) * (n + 1)
  pub few : new ≤ old + count * (3 * height)
