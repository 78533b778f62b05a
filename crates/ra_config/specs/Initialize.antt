-- What a session starts with, by the params of `initialize` (LSP 3.17).
use Rattle.std.specs.Prelude.{ℕ, List, [], ◌∷◌, ◌++◌, codes, Option, Some, None, option_and_then, option_to_list, Result, Ok, Err}
use Rattle.std.specs.Option.{option_map_or}
use Rattle.std.specs.Result.{result_ok}
use Rattle.serde_json.specs.Data.{Data, Items, no_items, item}
use Rattle.serde_json.specs.Find.{get, as_str, as_array}
use Rattle.docs_vfs.specs.FileUrls.{path_of}
use Rattle.ra_config.specs.Config.{ConfigData, config_at}
use Rattle.ra_config.specs.Capabilities.{capabilities_of}
use Rattle.layered_settings.specs.Change.{no_settings}
use Rattle.ra_settings.specs.Layers.{Values, layer_of, nothing_set}
use Rattle.layered_settings.specs.Search.{SettingsData}
use Rattle.ra_settings.specs.declared.layer.Source.{Source}
use Rattle.ra_config.specs.declared.initialize.ConfigFault.{ConfigFault}
use Rattle.ra_config.specs.declared.initialize.ConfigFault.TheVariants.{NoRoot}

-- the path whose URL stands at a member, or none where there is no text or it is no URL of a file
abbrev pub path_at : List ℕ → Data → Option (List ℕ)
path_at name d = option_and_then (λ url. result_ok (path_of url)) (option_and_then as_str (get name d))

-- the paths of folders, in order: a folder without a path is passed over
abbrev pub folder_paths : Items → List (List ℕ)
folder_paths no_items = []
folder_paths (item folder rest) = option_to_list (path_at (codes "uri") folder) ++ folder_paths rest

-- the paths of the folders that the params name
abbrev pub folders_of : Data → List (List ℕ)
folders_of params = option_map_or folder_paths (option_and_then as_array (get (codes "workspaceFolders") params)) []

-- a list, or what stands in for it where it is empty
abbrev pub or_else : List (List ℕ) → Option (List ℕ) → List (List ℕ)
or_else [] path = option_to_list path
or_else (first ∷ rest) path = first ∷ rest

-- the paths of the folders; where there is none, that of the root
abbrev pub paths_of : Data → List (List ℕ)
paths_of params = or_else (folders_of params) (path_at (codes "rootUri") params)

abbrev pub at_least_one : List (List ℕ) → Option (List (List ℕ))
at_least_one [] = None
at_least_one (first ∷ rest) = Some (first ∷ rest)

-- the roots of a session's workspaces, or none where the params name no path
unfoldable pub roots_of : Data → Option (List (List ℕ))
roots_of params = at_least_one (paths_of params)

-- the values that the client sets at first: those of its options, where they are there
abbrev pub first_client : List ℕ → Option Data → Values
first_client root None = nothing_set
first_client root (Some d) = layer_of Source.Client root d

abbrev pub first_settings : List ℕ → Data → SettingsData
first_settings root params = record no_settings { client = first_client root (get (codes "initializationOptions") params) }

-- the settings with these workspaces and this root
unfoldable pub config_from : Data → ℕ → List ℕ → List (List ℕ) → ConfigData
config_from params threads root roots = record (config_at root threads) {
  workspace_roots = roots;
  capabilities = capabilities_of params;
  settings = first_settings root params;
}

-- the settings with these workspaces, of which the first is the root
abbrev pub config_with : Data → ℕ → List (List ℕ) → Result ConfigData ConfigFault
config_with params threads [] = Err NoRoot
config_with params threads (root ∷ rest) = Ok (config_from params threads root (root ∷ rest))

-- the settings that a session starts with: `NoRoot` where it has no roots
unfoldable pub initial_config : Data → ℕ → Result ConfigData ConfigFault
initial_config params threads = config_with params threads (paths_of params)
