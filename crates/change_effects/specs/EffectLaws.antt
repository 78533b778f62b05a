-- What the laws on effects speak of.
use Rattle.std.specs.Prelude.{◌≡◌, ◌≢◌, true, false, [], Some, None, is_some}
use Rattle.std.specs.FinMap as map
use Rattle.docs_vfs.specs.Files.{Files, contents_at}
use Rattle.docs_vfs.specs.declared.file_kinds.ChangedFile.{ChangedFile}
use Rattle.docs_vfs.specs.declared.file_kinds.ChangeKind.TheVariants.{Modify}
use Rattle.workspaces.specs.Workspaces.{Paths}
use Rattle.change_effects.specs.declared.effects.ChangeEffects.{ChangeEffects}
use Rattle.change_effects.specs.declared.effects.SettingsFile.{SettingsFile}

-- a check of no sources, and nothing else
abbrev pub no_effects : ChangeEffects
no_effects = record { renews_roots = false; settings = []; macro_sources = Some []; fetch = None }

-- the file was modified
abbrev pub IsModified : ChangedFile → Type 0
IsModified change = change.kind ≡ Modify

-- the file was created or deleted, and crate data asked for its path
abbrev pub IsCause : Paths → ChangedFile → Type 0
IsCause asked change = (change.kind ≢ Modify) × (is_some (map.get asked change.path) ≡ true)

-- the contents are those that the table has at the path
abbrev pub HasContentsOf : Files → SettingsFile → Type 0
HasContentsOf files file = file.contents ≡ contents_at files file.path
