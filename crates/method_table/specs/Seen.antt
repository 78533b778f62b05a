-- How the code's table is seen.
use Rattle.std.specs.Prelude.{ℕ, ◌+◌, List, [], ◌∷◌}
use Rattle.method_table.specs.Defaults.{value_of}
use Rattle.method_table.specs.Table.{RowFacts}
use Rattle.method_table.specs.declared.facts.MethodRow.{MethodRow}

-- the row of a number that the code's table has so
abbrev pub seen : ℕ → MethodRow → RowFacts
seen n facts = record { number = n; method = facts.method.now; class = facts.class; retries = facts.retries; default = value_of facts.default }

-- the code's table from a number on
abbrev pub seen_from : ℕ → List MethodRow → List RowFacts
seen_from n [] = []
seen_from n (facts ∷ more) = seen n facts ∷ seen_from (n + 1) more
