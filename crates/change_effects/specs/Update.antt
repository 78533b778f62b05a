-- What a change of settings asks for.
use Rattle.std.specs.Prelude.{◌≡◌, ◌↔◌, ℕ, Bool, true, not, ◌&&◌, IsTrue, List, [], ◌∷◌, All, codes, Option, Some, None}
use Rattle.std.specs.Prelude.{if◌then◌else◌}
use Rattle.plain.specs.Same.{is_same_by, is_same_by-decides}
use Rattle.plain.specs.Tests.{Test, list_by}
use Rattle.ra_settings.specs.contracts.value.LinkedProject as project_row
use Rattle.ra_settings.specs.contracts.value.SettingValue as value_row
use Rattle.ra_settings.specs.declared.row.Row.{Row}
use Rattle.ra_settings.specs.declared.value.LinkedProject.{LinkedProject}
use Rattle.ra_settings.specs.declared.value.SettingValue.{SettingValue}
use Rattle.ra_config.specs.Config.{ConfigData, projects_of}
use Rattle.layered_settings.specs.Search.{setting}
use Rattle.change_effects.specs.declared.cause.FetchCause.{FetchCause}
use Rattle.change_effects.specs.declared.cause.FetchCause.TheVariants.{DiscoveredProjects, CargoConfig, CfgSetTest}
use Rattle.change_effects.specs.declared.update.ConfigUpdate.{ConfigUpdate}

-- ---- what is the same in both settings

-- by the codes under which values are stored
abbrev pub setting_value : Test SettingValue
setting_value = record {
  is_same = is_same_by value_row.the_row.coded;
  tells = is_same_by-decides value_row.the_row.coded;
}

abbrev pub project : Test LinkedProject
project = record {
  is_same = is_same_by project_row.the_row.coded;
  tells = is_same_by-decides project_row.the_row.coded;
}

-- the row's value, at no root
abbrev pub is_same_at : ConfigData → ConfigData → Row → Bool
is_same_at old new row = setting_value.is_same (setting row None old.settings) (setting row None new.settings)

abbrev pub are_same_at : ConfigData → ConfigData → List Row → Bool
are_same_at old new [] = true
are_same_at old new (row ∷ rows) = is_same_at old new row && are_same_at old new rows

-- the projects that the session works on
abbrev pub has_same_projects : ConfigData → ConfigData → Bool
has_same_projects old new = (list_by project).is_same (projects_of old) (projects_of new)

-- the rows whose names begin with `check.`
abbrev pub check_rows : List Row
check_rows = Row.CheckCommand ∷ Row.CheckWorkspace ∷ Row.CheckInvocationStrategy ∷ Row.CheckOverrideCommand ∷ []

-- the rows whose names begin with `cargo.`, but for `cargo.autoreload`
abbrev pub cargo_rows : List Row
cargo_rows =
    Row.CargoBuildScriptsEnable ∷ Row.CargoBuildScriptsRebuildOnSave ∷ Row.CargoExtraEnv ∷ Row.CargoFeatures
    ∷ Row.CargoAllTargets
    ∷ Row.CargoTarget ∷ []

-- ---- what is asked for

-- other projects ask for a fetch, and else other checks for the checks to be set anew; so do another configuration of
-- cargo, and another `cfg.setTest`
unfoldable pub update_of : ConfigData → ConfigData → ConfigUpdate
update_of old new = record {
  projects = not (has_same_projects old new);
  checks = has_same_projects old new && not (are_same_at old new check_rows);
  cargo = not (are_same_at old new cargo_rows);
  set_test = not (is_same_at old new Row.CfgSetTest);
}

-- why a fetch is asked for: of several causes the last holds, since a newer request replaces one that waits
abbrev pub cause_of : ConfigUpdate → Option FetchCause
cause_of update =
    if update.set_test then Some CfgSetTest else (if update.cargo then Some CargoConfig
    else (if update.projects then Some DiscoveredProjects else None))

abbrev pub cause_text : FetchCause → List ℕ
cause_text DiscoveredProjects = codes "discovered projects changed"
cause_text CargoConfig = codes "cargo config changed"
cause_text CfgSetTest = codes "cfg_set_test config changed"

-- ---- when it is asked for

abbrev pub IsSameAt : ConfigData → ConfigData → Row → Type 0
IsSameAt old new row = setting row None old.settings ≡ setting row None new.settings

abbrev pub HaveSameProjects : ConfigData → ConfigData → Type 0
HaveSameProjects old new = projects_of old ≡ projects_of new

abbrev pub HaveSameChecks : ConfigData → ConfigData → Type 0
HaveSameChecks old new = All (IsSameAt old new) check_rows

abbrev pub HaveSameCargo : ConfigData → ConfigData → Type 0
HaveSameCargo old new = All (IsSameAt old new) cargo_rows

pub record Asks (old new : ConfigData) (update : ConfigUpdate) : Type 0 where
  pub projects : IsTrue update.projects ↔ (¬ HaveSameProjects old new)
  pub checks : IsTrue update.checks ↔ (HaveSameProjects old new × (¬ HaveSameChecks old new))
  pub cargo : IsTrue update.cargo ↔ (¬ HaveSameCargo old new)
  pub set_test : IsTrue update.set_test ↔ (¬ IsSameAt old new Row.CfgSetTest)
