-- Names of crates, in which `-` and `_` are alike.
use Rattle.std.specs.Prelude.{ℕ, Bool, List, map, bytes_eq, ◌==◌, if◌then◌else◌}

-- the byte, or `_` for `-`
abbrev pub underscored : ℕ → ℕ
underscored b = if b == 45 then 95 else b

-- equal bytes, but for `-` and `_`, which are alike
abbrev pub is_alike : List ℕ → List ℕ → Bool
is_alike one two = bytes_eq (map underscored one) (map underscored two)
