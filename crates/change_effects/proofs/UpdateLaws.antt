-- What an update of settings asks for is what has changed.
use Rattle.std.proofs.Common.{All, List, refl}
use Rattle.std.specs.Prelude.{Decides, None}
use Rattle.std.proofs.lemmas.Bool.Decides.{Decides-not, Decides-and, Decides-by_and}
use Rattle.plain.specs.Tests.{list_by}
use Rattle.ra_settings.specs.declared.row.Row.{Row}
use Rattle.ra_config.specs.Config.{ConfigData, projects_of}
use Rattle.layered_settings.specs.Search.{setting}
use Rattle.change_effects.specs.Update.{Asks, HaveSameProjects, IsSameAt, are_same_at, cargo_rows, check_rows, has_same_projects, is_same_at, project}
use Rattle.change_effects.specs.Update.{setting_value, update_of}

pub row_told : (old new : ConfigData) (row : Row) → Decides (is_same_at old new row) (IsSameAt old new row)
row_told old new row = setting_value.tells (setting row None old.settings) (setting row None new.settings)

pub projects_told : (old new : ConfigData) → Decides (has_same_projects old new) (HaveSameProjects old new)
projects_told old new = (list_by project).tells (projects_of old) (projects_of new)

rows_told : (old new : ConfigData) (rows : List Row) → Decides (are_same_at old new rows) (All (IsSameAt old new) rows)
rows_told old new rows =
    Decides-by_and (is_same_at old new) (IsSameAt old new) (are_same_at old new) (row_told old new) refl (λ _ _. refl) rows

pub asks : (old new : ConfigData) → Asks old new (update_of old new)
unfolding update_of
asks old new = record {
  projects = Decides-not _ (projects_told old new);
  checks = Decides-and _ _ (projects_told old new) (Decides-not _ (rows_told old new check_rows));
  cargo = Decides-not _ (rows_told old new cargo_rows);
  set_test = Decides-not _ (row_told old new Row.CfgSetTest);
}
