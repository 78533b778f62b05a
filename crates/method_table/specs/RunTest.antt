-- The params of a request to run tests: an object whose `include` and `exclude` are each missing, null or a list of texts.
use Rattle.std.specs.Prelude.{ℕ, List, [], ◌∷◌, codes, Option, None, Some, option_and_then, option_map}
use Rattle.serde_json.specs.Data.{Data, null, boolean, number, string, array, object, Items, no_items, item, Members}
use Rattle.serde_json.specs.Find.{as_object, as_str, get_member}
use Rattle.method_table.specs.declared.request.RunTest.{RunTest}

-- the texts that items are, where each is one
abbrev pub texts_in : Items → Option (List (List ℕ))
texts_in no_items = Some []
texts_in (item d ds) = option_and_then (λ text. option_map (λ texts. text ∷ texts) (texts_in ds)) (as_str d)

-- a list of texts, or none for null
abbrev pub texts_or_null : Data → Option (Option (List (List ℕ)))
texts_or_null null = Some None
texts_or_null (boolean b) = None
texts_or_null (number n) = None
texts_or_null (string s) = None
texts_or_null (array ds) = option_map Some (texts_in ds)
texts_or_null (object ms) = None

-- the same of a member that may be missing
abbrev pub optional_texts : Option Data → Option (Option (List (List ℕ)))
optional_texts None = Some None
optional_texts (Some d) = texts_or_null d

abbrev pub run_test_in : Members → Option RunTest
run_test_in members =
    option_and_then (λ include. option_map (λ exclude. record { include = include; exclude = exclude })
    (optional_texts (get_member (codes "exclude") members))) (optional_texts (get_member (codes "include") members))

abbrev pub run_test_of : Data → Option RunTest
run_test_of params = option_and_then run_test_in (as_object params)
