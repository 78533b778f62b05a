-- When checks restart, for which files, and which are cancelled.
use Rattle.std.specs.Prelude.{ℕ, ◌&&◌, Bool, false, not, List, [], Option, None, Some, is_some, Result, Ok, Err}
use Rattle.std.specs.Prelude.{if◌then◌else◌}
use Rattle.std.specs.List.{list_any}
use Rattle.docs_vfs.specs.FileUrls.{path_of}
use Rattle.docs_vfs.specs.Paths.{is_within}
use Rattle.docs_vfs.specs.declared.file_url.UrlFault.{UrlFault}
use Rattle.docs_vfs.specs.declared.source_roots.Root.{Root}
use Rattle.ra_config.specs.Config.{ConfigData}
use Rattle.ra_settings.specs.declared.row.Row.TheVariants.{CheckOnSave, CheckWorkspace}
use Rattle.layered_settings.specs.Search.{setting}
use Rattle.serde_json.specs.Data.{Data}
use Rattle.serde_json.specs.Find.{as_str}
use Rattle.activities.specs.CheckRuns.{those_of}
use Rattle.activities.specs.Checks.{Checks, cancelled_at, file_restarted}
use Rattle.activities.specs.declared.telling.Telling.{Telling}
use Rattle.change_effects.specs.Update.{update_of}
use Rattle.session_files.specs.SessionFiles.{SessionFiles}
use Rattle.workspaces.specs.Workspaces.{Workspaces}
use Rattle.session_model.specs.Crates.{loaded_as}
use Rattle.session_model.specs.Saving.{settings_root}
use Rattle.session_model.specs.State.{truth_in}
use Rattle.session_model.specs.Status.{is_quiescent}

-- ---- settings

-- a change of settings asks for the checks to be set anew
abbrev pub has_other_checks : ConfigData → ConfigData → Bool
has_other_checks old new = (update_of old new).checks

-- checks are made of whole workspaces: the setting `check.workspace`
abbrev pub checks_workspaces : ConfigData → Bool
checks_workspaces settings = truth_in (setting CheckWorkspace None settings.settings)

-- checks are made when files are saved: the setting `checkOnSave`
abbrev pub checks_saves : ConfigData → Bool
checks_saves settings = truth_in (setting CheckOnSave None settings.settings)

abbrev pub checks_all_on_save : ConfigData → Bool
checks_all_on_save settings = checks_saves settings && checks_workspaces settings

-- the same for a file, by the root at which its settings are read
abbrev pub checks_on_save : ConfigData → List Root → List ℕ → Bool
checks_on_save settings roots path = truth_in (setting CheckOnSave (settings_root roots path) settings.settings)

-- ---- when all restart

-- in a session that has come to be quiescent, unless build data is asked for
abbrev pub restart_at_rest : Bool → ConfigData → SessionFiles → Workspaces → Bool
restart_at_rest was_quiescent settings files workspaces =
    not was_quiescent && is_quiescent files workspaces && checks_all_on_save settings
    && not (is_some workspaces.builds.queue.waiting)

-- a path lies outside one of these folders
abbrev pub is_outside : List (List ℕ) → Result (List ℕ) UrlFault → Bool
is_outside folders (Err fault) = false
is_outside folders (Ok path) = list_any (λ folder. not (is_within folder path)) folders

-- a file changed that lies outside one of the workspaces' folders
abbrev pub restart_checks : ConfigData → List (List ℕ) → Bool
restart_checks settings urls =
    checks_saves settings && list_any (λ url. is_outside settings.workspace_roots (path_of url)) urls

-- ---- which do

-- what checks of a file restarts: nothing where it isn't in the table or is excluded. Where checks run for each
-- workspace, nothing does yet
abbrev pub restarts_for : ConfigData → SessionFiles → List ℕ → Checks → List Telling
restarts_for settings files path checks =
    if is_some (loaded_as files.ids path) then those_of (file_restarted settings path checks) else []

abbrev pub cancelled_by_text : Option (List ℕ) → Checks → List Telling
cancelled_by_text None checks = []
cancelled_by_text (Some token) checks = cancelled_at token checks

-- the check that is shown under a token is cancelled
abbrev pub cancelled_under : Data → Checks → List Telling
cancelled_under token checks = cancelled_by_text (as_str token) checks
