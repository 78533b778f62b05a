-- What follows from a list of changes.
use Rattle.std.specs.Prelude.{ℕ, Bool, List, find, Option, Some, None, option_map, if◌then◌else◌}
use Rattle.std.specs.List.{filter_map, list_any}
use Rattle.docs_vfs.specs.declared.file_kinds.ChangedFile.{ChangedFile}
use Rattle.docs_vfs.specs.declared.file_kinds.FileId.{FileId}
use Rattle.workspaces.specs.declared.requests.FetchRequest.{FetchRequest}
use Rattle.workspaces.specs.Workspaces.{Paths}
use Rattle.change_effects.specs.declared.effects.SettingsFile.{SettingsFile}
use Rattle.change_effects.specs.declared.effects.ChangeEffects.{ChangeEffects}
use Rattle.change_effects.specs.Changes.{came_or_went, is_awaited, settings_of, source_of, asks_fetch}

-- files were created or deleted
abbrev pub have_come_or_gone : List ChangedFile → Bool
have_come_or_gone changes = list_any came_or_went changes

-- files were created or deleted that crate data asked for
abbrev pub are_awaited : Paths → List ChangedFile → Bool
are_awaited asked changes = list_any (is_awaited asked) changes

-- the settings files that changed
abbrev pub settings_among : List ChangedFile → List SettingsFile
settings_among changes = filter_map settings_of changes

-- the files of Rust that were modified
abbrev pub sources_among : List ChangedFile → List FileId
sources_among changes = filter_map source_of changes

-- they are checked unless the fetch is forced
abbrev pub macro_sources_of : Bool → List ChangedFile → Option (List FileId)
macro_sources_of force changes = if force then None else Some (sources_among changes)

abbrev pub request_for : Bool → ChangedFile → FetchRequest
request_for force change = record { path = Some change.path; force = force }

-- the first change that asks for a fetch gives it its path
abbrev pub fetch_for : Bool → List (List ℕ) → List ChangedFile → Option FetchRequest
fetch_for force additional changes = option_map (request_for force) (find (asks_fetch additional) changes)

-- what follows from changes, where crate data asked for some paths, and further names are watched
abbrev pub effects_of : Paths → List (List ℕ) → List ChangedFile → ChangeEffects
effects_of asked additional changes = record {
  renews_roots = have_come_or_gone changes;
  settings = settings_among changes;
  macro_sources = macro_sources_of (are_awaited asked changes) changes;
  fetch = fetch_for (are_awaited asked changes) additional changes;
}
