-- What one change of a file is.
use Rattle.std.specs.Prelude.{ℕ, Bool, false, not, ◌&&◌, ◌||◌, List, codes, bytes_eq, Option, Some, None, is_some}
use Rattle.std.specs.Prelude.{option_and_then, if◌then◌else◌}
use Rattle.std.specs.FinMap as map
use Rattle.docs_vfs.specs.Kinds.{is_created_or_deleted}
use Rattle.docs_vfs.specs.Paths.{name_of, extension_of}
use Rattle.docs_vfs.specs.declared.file_kinds.ChangedFile.{ChangedFile}
use Rattle.docs_vfs.specs.declared.file_kinds.FileId.{FileId}
use Rattle.reload.specs.Refresh.{is_extension_rs, refreshes}
use Rattle.workspaces.specs.Workspaces.{Paths}
use Rattle.change_effects.specs.declared.effects.SettingsFile.{SettingsFile}

-- the file was created or deleted
abbrev pub came_or_went : ChangedFile → Bool
came_or_went change = is_created_or_deleted change.kind

-- and is one that crate data asked for
abbrev pub is_awaited : Paths → ChangedFile → Bool
is_awaited asked change = came_or_went change && is_some (map.get asked change.path)

abbrev pub is_settings_name : Option (List ℕ) → Bool
is_settings_name None = false
is_settings_name (Some name) = bytes_eq name (codes "rust-analyzer.toml")

-- the path of a settings file
abbrev pub is_settings_file : List ℕ → Bool
is_settings_file path = is_settings_name (name_of path)

-- a settings file with what it contains now
abbrev pub settings_of : ChangedFile → Option SettingsFile
settings_of change = if is_settings_file change.path
    then Some (record { path = change.path; contents = change.contents }) else None

-- the path of a file of Rust
abbrev pub is_rust : List ℕ → Bool
is_rust path = is_extension_rs (option_and_then extension_of (name_of path))

-- a file of Rust that was modified
abbrev pub is_source : ChangedFile → Bool
is_source change = not (came_or_went change) && is_rust change.path

abbrev pub source_of : ChangedFile → Option FileId
source_of change = if is_source change then Some change.file else None

-- a creation, a deletion, and a change that refreshes the workspaces ask for a fetch
abbrev pub asks_fetch : List (List ℕ) → ChangedFile → Bool
asks_fetch additional change = came_or_went change || refreshes change.path change.kind additional
