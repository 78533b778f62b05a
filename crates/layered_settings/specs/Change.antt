-- A change of settings.
use Rattle.std.specs.Prelude.{◌≡◌, ℕ, ◌==◌, ◌&&◌, Bool, List, [], ◌∷◌, ◌++◌, Option, Some, None, is_some, if◌then◌else◌, codes}
use Rattle.std.specs.Cmp.Lexicographic.{pointwise}
use Rattle.std.specs.FinMap as finmap
use Rattle.std.specs.Ordering.{nat_cmp}
use Rattle.serde_json.specs.Data.{Data, object, no_members}
use Rattle.ra_settings.specs.declared.error.ConfigError.{ConfigError}
use Rattle.ra_settings.specs.declared.layer.Source.{Source}
use Rattle.layered_settings.specs.declared.change.SettingsFile.{SettingsFile}
use Rattle.layered_settings.specs.declared.change.ConfigChange.{ConfigChange}
use Rattle.ra_settings.specs.declared.row.TheConstants.{ROWS}
use Rattle.ra_settings.specs.Layers.{Values, layer_of, errors_of, nothing_set}
use Rattle.layered_settings.specs.Search.{SettingsData, Layers, Parents}
use Rattle.ra_settings.specs.Toml.{toml_tree}
use Rattle.layered_settings.specs.Order.{by_path}

-- the tree of a text; a deleted file is an empty table
abbrev pub tree_in : Option (List ℕ) → Option Data
tree_in None = Some (object no_members)
tree_in (Some text) = toml_tree text

abbrev pub layer_in : Source → List ℕ → Option Data → Values
layer_in source root None = nothing_set
layer_in source root (Some d) = layer_of source root d

-- the error of a text that is no TOML
abbrev pub not_toml : List ℕ → ConfigError
not_toml place = record { place = place; key = []; reason = codes "not TOML" }

abbrev pub errors_in : List ℕ → Source → List ℕ → Option Data → List ConfigError
errors_in place source root None = not_toml place ∷ []
errors_in place source root (Some d) = errors_of place source root d ROWS

-- what a text sets, and its errors
unfoldable pub text_layer : Source → List ℕ → Option (List ℕ) → Values
text_layer source root text = layer_in source root (tree_in text)

unfoldable pub text_errors : List ℕ → Source → List ℕ → Option (List ℕ) → List ConfigError
text_errors place source root text = errors_in place source root (tree_in text)

-- the roots that came already
abbrev pub Roots : Type 0
Roots = finmap.FinMap nat_cmp (Unit {0})

-- of files in order the first of each root
abbrev pub held : Roots → List SettingsFile → List SettingsFile
held done [] = []
held done (c ∷ cs) = if is_some (finmap.get done c.root) then held done cs else c ∷ held (finmap.insert done c.root tt) cs

-- of files in order the paths of those that don't hold, each after another of its root
abbrev pub over : Roots → List SettingsFile → List (List ℕ)
over done [] = []
over done (c ∷ cs) = if is_some (finmap.get done c.root) then c.path ∷ over done cs else over (finmap.insert done c.root tt) cs

abbrev pub put_files : Source → List ℕ → List SettingsFile → Layers → Layers
put_files source root [] layers = layers
put_files source root (c ∷ cs) layers = put_files source root cs (finmap.insert layers c.root (text_layer source root c.text))

abbrev pub tell_files : Source → List ℕ → List SettingsFile → List ConfigError
tell_files source root [] = []
tell_files source root (c ∷ cs) = text_errors c.path source root c.text ++ tell_files source root cs

abbrev pub files_after : Source → List ℕ → List SettingsFile → Layers → Layers
files_after source root changes layers = put_files source root (held finmap.empty (by_path changes)) layers

abbrev pub files_errors : Source → List ℕ → List SettingsFile → List ConfigError
files_errors source root changes = tell_files source root (held finmap.empty (by_path changes))

-- the first pair of a root holds
abbrev pub put_first : Parents → ℕ × ℕ → Parents
put_first made pair = if is_some (finmap.get made pair.0) then made else finmap.insert made pair.0 pair.1

abbrev pub put_parents : Parents → List (ℕ × ℕ) → Parents
put_parents made [] = made
put_parents made (pair ∷ pairs) = put_parents (put_first made pair) pairs

-- the parents by root
abbrev pub parents_of : List (ℕ × ℕ) → Parents
parents_of pairs = put_parents finmap.empty pairs

-- both lists have the same pairs, in order
abbrev pub same_pairs : List (ℕ × ℕ) → List (ℕ × ℕ) → Bool
same_pairs = pointwise (λ p q. p.0 == q.0 && p.1 == q.1)

-- the parents are just those of these pairs: each root with its parent is in both, and none besides
unfoldable pub has_parents : Parents → List (ℕ × ℕ) → Bool
has_parents parents pairs = same_pairs (finmap.entries parents) (finmap.entries (parents_of pairs))

abbrev pub parents_after : Option (List (ℕ × ℕ)) → Parents → Parents
parents_after None old = old
parents_after (Some pairs) old = parents_of pairs

abbrev pub client_after : List ℕ → Option Data → Values → Values
client_after root None old = old
client_after root (Some d) old = layer_of Source.Client root d

abbrev pub client_errors : List ℕ → Option Data → List ConfigError
client_errors root None = []
client_errors root (Some d) = errors_of (codes "client") Source.Client root d ROWS

abbrev pub user_after : List ℕ → Option (List ℕ) → Values → Values
user_after root None old = old
user_after root (Some text) old = text_layer Source.User root (Some text)

abbrev pub user_errors : List ℕ → Option (List ℕ) → List ConfigError
user_errors root None = []
user_errors root (Some text) = text_errors (codes "user") Source.User root (Some text)

-- the settings after a change, with the root path
unfoldable pub after : List ℕ → ConfigChange → SettingsData → SettingsData
after root c s = record {
  client = client_after root c.client s.client;
  user = user_after root c.user s.user;
  workspaces = files_after Source.WorkspaceFile root c.workspace_toml s.workspaces;
  crates = files_after Source.CrateFile root c.crate_toml s.crates;
  parents = parents_after c.parents s.parents;
}

-- the errors of the values that a change brings: the client's, the user's, the workspace files' and the crate files' by path
unfoldable pub errors_after : List ℕ → ConfigChange → List ConfigError
errors_after root c =
    client_errors root c.client ++ user_errors root c.user ++ files_errors Source.WorkspaceFile root c.workspace_toml ++ files_errors Source.CrateFile root c.crate_toml

-- the paths of the changed files that don't hold, since a smaller path of their root and kind does: the workspace files', then the crate files'
unfoldable pub passed_over : ConfigChange → List (List ℕ)
passed_over c = over finmap.empty (by_path c.workspace_toml) ++ over finmap.empty (by_path c.crate_toml)

-- no value is set
unfoldable pub no_settings : SettingsData
no_settings = record {
  client = nothing_set;
  user = nothing_set;
  workspaces = finmap.empty;
  crates = finmap.empty;
  parents = finmap.empty;
}

-- the client's or the user's values differ
abbrev pub HasChanged : SettingsData → SettingsData → Type 0
HasChanged new old = ¬ ((new.client ≡ old.client) × (new.user ≡ old.user))
