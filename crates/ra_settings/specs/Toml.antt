-- A TOML text as the JSON value that the rows are read from. A float or a date stands as a float, which no setting takes.
use Rattle.std.specs.Prelude.{ℕ, Bool, List, [], ◌∷◌, nat_eq, Option, None, option_map, if◌then◌else◌}
use Rattle.std.specs.List.{starts_with}
use Rattle.serde_json.specs.Data.{Data, boolean, number, string, array, object, float, Members, no_members, put}
use Rattle.serde_json.specs.Find.{of_integer}
use Rattle.serde_json.specs.View.{items_of}
use Rattle.toml.specs.Data as toml
use Rattle.toml.specs.Parse.{parse_document}
use Rattle.ra_settings.specs.declared.from_toml.TheConstants.{NO_SETTING}

abbrev pub no_setting : Data
no_setting = number (float NO_SETTING)

abbrev mutual
  pub tree_of : toml.Data → Data
  tree_of (toml.string s) = string s
  tree_of (toml.integer z) = number (of_integer z)
  tree_of (toml.float x) = no_setting
  tree_of (toml.boolean b) = boolean b
  tree_of (toml.datetime dt) = no_setting
  tree_of (toml.array ds) = array (items_of (list_of ds))
  tree_of (toml.table ms) = object (members_of no_members ms)

  pub list_of : toml.Items → List Data
  list_of toml.no_items = []
  list_of (toml.item d ds) = tree_of d ∷ list_of ds

  -- the members, put to others one after another
  pub members_of : Members → toml.Members → Members
  members_of made toml.no_members = made
  members_of made (toml.member k d ms) = members_of (put k (tree_of d) made) ms

-- the text begins with a byte order mark
abbrev pub has_mark : List ℕ → Bool
has_mark text = starts_with nat_eq text (239 ∷ 187 ∷ 191 ∷ [])

-- the tree of a text; one with a byte order mark is no TOML here
abbrev pub toml_tree : List ℕ → Option Data
toml_tree text = if has_mark text then None else option_map (λ ms. object (members_of no_members ms)) (parse_document text)
