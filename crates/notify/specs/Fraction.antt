-- How far a piece of work is.
use Rattle.std.specs.Prelude.{ℕ, ◌*◌, ◌/◌, max}

-- whole hundredths of the total, rounded down; of nothing none
abbrev pub hundredths : ℕ → ℕ → ℕ
hundredths done total = 100 * done / max total 1
