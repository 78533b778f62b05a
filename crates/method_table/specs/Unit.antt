-- Params that say nothing.
use Rattle.std.specs.Prelude.{Bool, true, false}
use Rattle.serde_json.specs.Data.{Data, null, boolean, number, string, array, object, Items, no_items, item, Members, no_members, member}

abbrev pub has_no_items : Items → Bool
has_no_items no_items = true
has_no_items (item d ds) = false

abbrev pub has_no_members : Members → Bool
has_no_members no_members = true
has_no_members (member k d ms) = false

-- null, `{}` or `[]`
abbrev pub is_unit : Data → Bool
is_unit null = true
is_unit (boolean b) = false
is_unit (number n) = false
is_unit (string s) = false
is_unit (array ds) = has_no_items ds
is_unit (object ms) = has_no_members ms
