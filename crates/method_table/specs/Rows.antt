-- What is found in the table.
use Rattle.std.specs.Prelude.{ℕ, ◌==◌, Bool, false, nat_eq, List, [], find, Option}
use Rattle.std.specs.Option.{option_map, option_map_or}
use Rattle.std.specs.Cmp.Lexicographic.{pointwise}
use Rattle.serde_json.specs.Data.{Data, null}
use Rattle.method_table.specs.Table.{RowFacts, table}
use Rattle.method_table.specs.declared.class.Class.{Class}
use Rattle.method_table.specs.declared.class.Class.TheVariants.{Worker}
use Rattle.method_table.specs.declared.row_id.RowId.{RowId}

abbrev pub has_number : ℕ → RowFacts → Bool
has_number n facts = facts.number == n

abbrev pub has_method : List ℕ → RowFacts → Bool
has_method method facts = pointwise nat_eq facts.method method

-- what the table says of a row, if it has one of this number
unfoldable pub facts_of : RowId → Option RowFacts
facts_of row = find (has_number row.0) table

abbrev pub id_of : RowFacts → RowId
id_of facts = record { 0 = facts.number }

-- the row of a method, if the table has one
unfoldable pub row_of : List ℕ → Option RowId
row_of method = option_map id_of (find (has_method method) table)

-- a number that is no row's has the empty method, the class of a worker, no retry, and the default null
abbrev pub method_of : RowId → List ℕ
method_of row = option_map_or (λ facts. facts.method) (facts_of row) []

abbrev pub class_of : RowId → Class
class_of row = option_map_or (λ facts. facts.class) (facts_of row) Worker

abbrev pub retries : RowId → Bool
retries row = option_map_or (λ facts. facts.retries) (facts_of row) false

abbrev pub default_of : RowId → Data
default_of row = option_map_or (λ facts. facts.default) (facts_of row) null
