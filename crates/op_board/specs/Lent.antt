-- What a map ends as where a `&mut` to a value is returned: once the borrow r ends, the key has the last value written
-- through r; at `None` the map stays as it is.
use Rattle.std.specs.Prelude.{◌≡◌, ℕ, List, Option, OnSome}
use Rattle.std.specs.Borrow.{LendsSo, Fml, RattleType, MutBor}
use Rattle.std.specs.Ordering.{nat_cmp}
use Rattle.std.specs.FinMap as map
use Rattle.op_board.specs.Packages.{package_cmp}
use Rattle.op_board.specs.contracts.by_file.ByFile.{the_row as file_row}
use Rattle.op_board.specs.contracts.by_package.ByPackage.{the_row as package_row}

abbrev pub lends_of_file : (V : RattleType) → MutBor (map.FinMap nat_cmp V.Denot) → ℕ → Option (MutBor V.Denot) → Fml
lends_of_file V m file r = LendsSo (file_row V) V m r (λ n w. OnSome r (n ≡ map.insert m.now file w)) (λ n. n ≡ m.now)

abbrev pub lends_of_package : (V : RattleType) → MutBor (map.FinMap package_cmp V.Denot) → Option (List ℕ) → Option (MutBor V.Denot) → Fml
lends_of_package V m name r = LendsSo (package_row V) V m r (λ n w. OnSome r (n ≡ map.insert m.now name w)) (λ n. n ≡ m.now)
