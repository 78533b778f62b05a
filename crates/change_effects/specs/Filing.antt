-- The change of settings that changed settings files come to.
use Rattle.std.specs.Prelude.{ℕ, Bool, false, ◌&&◌, List, nat_le, length, bytes_eq, Option, Some, None, if◌then◌else◌}
use Rattle.std.specs.List.{filter_map, list_any}
use Rattle.std.specs.Str.{is_utf8}
use Rattle.docs_vfs.specs.Paths.{parent_of}
use Rattle.docs_vfs.specs.Roots.{is_local_at, root_of}
use Rattle.docs_vfs.specs.declared.source_roots.Root.{Root}
use Rattle.text_core.specs.LineEnds.{normalized}
use Rattle.project_model.specs.declared.workspace.ProjectWorkspace.{ProjectWorkspace}
use Rattle.layered_settings.specs.declared.change.ConfigChange.{ConfigChange}
use Rattle.layered_settings.specs.declared.change.SettingsFile.{SettingsFile as RootFile}
use Rattle.change_effects.specs.declared.effects.SettingsFile.{SettingsFile}

-- ---- the text of a file

-- the most bytes that a text has
abbrev pub text_limit : ℕ
text_limit = 4294967295

-- UTF-8, and not too long
abbrev pub is_text : List ℕ → Bool
is_text bytes = is_utf8 bytes && nat_le (length bytes) text_limit

-- a text, with LF for each CR LF; a file that was deleted has none, and contents that are no text are none
abbrev pub text_in : Option (List ℕ) → Option (List ℕ)
text_in None = None
text_in (Some bytes) = if is_text bytes then Some (normalized bytes) else None

-- ---- where a file stands

abbrev pub is_folder : Option (List ℕ) → List ℕ → Bool
is_folder None root = false
is_folder (Some folder) root = bytes_eq folder root

-- right at the root of a workspace
abbrev pub is_at_workspace : List ProjectWorkspace → List ℕ → Bool
is_at_workspace workspaces path = list_any (λ workspace. is_folder (parent_of path) workspace.root) workspaces

-- a file in a local root is one of its settings; a file in any other is none
abbrev pub file_in : List Root → SettingsFile → Option RootFile
file_in roots file =
    if is_local_at roots (root_of roots file.path)
    then Some (record { root = root_of roots file.path; path = file.path; text = text_in file.contents }) else None

-- at the root of a workspace it is the workspace's, anywhere else the crate's
abbrev pub workspace_file : List Root → List ProjectWorkspace → SettingsFile → Option RootFile
workspace_file roots workspaces file = if is_at_workspace workspaces file.path then file_in roots file else None

abbrev pub crate_file : List Root → List ProjectWorkspace → SettingsFile → Option RootFile
crate_file roots workspaces file = if is_at_workspace workspaces file.path then None else file_in roots file

abbrev pub workspace_files : List Root → List ProjectWorkspace → List SettingsFile → List RootFile
workspace_files roots workspaces files = filter_map (workspace_file roots workspaces) files

abbrev pub crate_files : List Root → List ProjectWorkspace → List SettingsFile → List RootFile
crate_files roots workspaces files = filter_map (crate_file roots workspaces) files

-- ---- the change

-- these files have changed, and the roots have these parents where some are given; all else stays
abbrev pub filed_change : List Root → Option (List (ℕ × ℕ)) → List ProjectWorkspace → List SettingsFile → ConfigChange
filed_change roots parents workspaces files = record {
  client = None;
  user = None;
  workspace_toml = workspace_files roots workspaces files;
  crate_toml = crate_files roots workspaces files;
  parents = parents;
}
