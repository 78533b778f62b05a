-- Small pieces of JSON. An object has its keys in byte order, whatever order they are put in.
use Rattle.std.specs.Prelude.{ℕ, List, Option, option_map}
use Rattle.serde_json.specs.Data.{Data, number, unsigned, string, array, object, no_members, put}
use Rattle.serde_json.specs.View.{items_of}

-- the object with one member
abbrev pub one : List ℕ → Data → Data
one key d = object (put key d no_members)

-- the same with a text
abbrev pub with_text : List ℕ → List ℕ → Data
with_text key text = one key (string text)

abbrev pub list : List Data → Data
list ds = array (items_of ds)

-- a text and a number that may be absent
abbrev pub optional_text : Option (List ℕ) → Option Data
optional_text text = option_map string text

abbrev pub optional_number : Option ℕ → Option Data
optional_number n = option_map (λ n. number (unsigned n)) n
