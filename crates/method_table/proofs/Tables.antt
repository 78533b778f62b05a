-- The code's table is the table, and a row is found by its number.
use Rattle.std.proofs.Common.{◌≡◌, ℕ, zero, suc, ◌+◌, List, [], ◌∷◌, Option, None, Some, find, refl, sym, ap, arith}
use Rattle.std.specs.Prelude.{slice_get}
use Rattle.std.specs.Borrow.{Bor}
use Rattle.std.specs.Option.{option_map}
use Rattle.std.proofs.lemmas.Bool.{eq-eqb, ne_eqb}
use Rattle.method_table.specs.Rows.{has_number, facts_of}
use Rattle.method_table.specs.Seen.{seen, seen_from}
use Rattle.method_table.specs.Table.{table}
use Rattle.method_table.specs.declared.row_id.RowId.{RowId}
use Rattle.method_table.specs.declared.facts.MethodRow.{MethodRow}

-- a row stands as far behind the first as its number is above the first's
find_seen : (n j k : ℕ) (xs : List MethodRow) → j ≡ n + k → find (has_number j) (seen_from n xs) ≡ option_map (seen j) (slice_get xs k)
find_seen n j k [] e = refl
find_seen n j zero (x ∷ xs) e =
    let same : n ≡ j = omega (arith, e) in
    rw (eq-eqb n j same) (ap (λ m. Some (seen m x)) same)
find_seen n j (suc k) (x ∷ xs) e =
    rw (ne_eqb n j (λ same. omega (arith, same, e))) (find_seen (n + 1) j k xs (omega (arith, e)))

-- in rows that are the table's
pub facts_found : (rows : List MethodRow) → seen_from 1 rows ≡ table → (row : RowId) (k : ℕ) → row.0 ≡ k + 1 → option_map (seen row.0) (slice_get rows k) ≡ facts_of row
unfolding facts_of
facts_found rows same row k e = rw (← same) (sym (find_seen 1 row.0 k rows (omega (arith, e))))

starts_at_one : find (has_number 0) table ≡ None
unfolding table
starts_at_one = refl

pub no_facts : (row : RowId) → row.0 ≡ 0 → None ≡ facts_of row
unfolding facts_of
no_facts row e = rw e (sym starts_at_one)

-- what is seen of a row that is lent
pub lent : (n : ℕ) (found : Option (Bor MethodRow)) → option_map (λ facts. seen n facts.now) found ≡ option_map (seen n) (option_map (λ facts. facts.now) found)
lent n None = refl
lent n (Some facts) = refl
