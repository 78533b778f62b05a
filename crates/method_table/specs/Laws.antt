-- What the laws of the table speak of.
use Rattle.std.specs.Prelude.{◌≡◌, ℕ, zero, suc, ◌+◌, List, [], ◌∷◌, Some}
use Rattle.method_table.specs.Rows.{row_of}
use Rattle.method_table.specs.declared.row_id.RowId.{RowId}

-- so many numbers, one after the other
abbrev pub numbers_from : ℕ → ℕ → List ℕ
numbers_from n zero = []
numbers_from n (suc count) = n ∷ numbers_from (n + 1) count

-- the row that a method has
abbrev pub IsRowOf : List ℕ → RowId → Type 0
IsRowOf method row = row_of method ≡ Some row
