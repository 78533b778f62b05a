-- What a table by paths ends as where a `&mut` to a value is returned.
use Rattle.std.specs.Prelude.{◌≡◌, ℕ, List, Option, OnSome}
use Rattle.std.specs.Borrow.{LendsSo, Fml, RattleType, MutBor}
use Rattle.std.specs.FinMap as map
use Rattle.docs_vfs.specs.Paths.{path_cmp}
use Rattle.docs_vfs.specs.contracts.path_table.PathTable.{the_row}

-- once the borrow r ends, the path has the last value written through r; at `None` the table stays as it is
abbrev pub lends_at : (V : RattleType) → MutBor (map.FinMap path_cmp V.Denot) → List ℕ → Option (MutBor V.Denot) → Fml
lends_at V m key r = LendsSo (the_row V) V m r (λ n w. OnSome r (n ≡ map.insert m.now key w)) (λ n. n ≡ m.now)
