-- `_` in the place of `-`, cut at the first `-`.
use Rattle.std.proofs.Common.{◌≡◌, ℕ, ◌<◌, ◌++◌, Bool, List, [], ◌∷◌, length, map, refl, arith}
use Rattle.std.specs.List.{position_or_len, before_first, after_first}
use Rattle.std.specs.Prelude.{◌==◌}
use Rattle.std.proofs.lemmas.Bool.Decides.{nat_tests}
use Rattle.std.proofs.lemmas.Grind.{common_steps}
use Rattle.activities.specs.TestRun.{underscored}

abbrev is_dash : ℕ → Bool
is_dash code = code == 45

-- a text without one stays as it is
pub map-underscored_none : (bs : List ℕ) → position_or_len is_dash bs ≡ length bs → map underscored bs ≡ bs
map-underscored_none [] e = refl
map-underscored_none (b ∷ bs) e =
    let more = map-underscored_none bs in grind (arith, nat_tests, more)

pub map-underscored_first : (bs : List ℕ) → position_or_len is_dash bs < length bs
    → map underscored bs ≡ before_first is_dash bs ++ (95 ∷ map underscored (after_first is_dash bs))
map-underscored_first [] e = absurd (omega arith)
map-underscored_first (b ∷ bs) e =
    let more = map-underscored_first bs in grind (arith, nat_tests, common_steps, more)
