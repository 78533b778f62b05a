-- What a map by number ends as where a `&mut` to a value is returned.
use Rattle.std.specs.Prelude.{◌≡◌, ℕ, Option, OnSome}
use Rattle.std.specs.Borrow.{LendsSo, Fml, RattleType, MutBor}
use Rattle.std.specs.FinMap as map
use Rattle.std.specs.Ordering.{nat_cmp}
use Rattle.plain.specs.contracts.by_number.ByNumber.{the_row}

-- once the borrow r ends, the number has the last value written through r; at `None` the map stays as it is
abbrev pub lends_at : (V : RattleType) → MutBor (map.FinMap nat_cmp V.Denot) → ℕ → Option (MutBor V.Denot) → Fml
lends_at V m key r = LendsSo (the_row V) V m r (λ n w. OnSome r (n ≡ map.insert m.now key w)) (λ n. n ≡ m.now)
