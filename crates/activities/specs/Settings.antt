-- What the settings say of checks and of discoveries.
use Rattle.std.specs.Prelude.{ℕ, Bool, true, false, List, [], Option, None, Some}
use Rattle.ra_settings.specs.declared.row.Row.TheVariants.{CheckCommand, CheckInvocationStrategy, CheckOverrideCommand}
use Rattle.ra_settings.specs.declared.row.Row.TheVariants.{WorkspaceDiscoverConfig}
use Rattle.ra_settings.specs.declared.value.DiscoverConfig.{DiscoverConfig}
use Rattle.ra_settings.specs.declared.value.InvocationStrategy.TheVariants.{PerWorkspace, Once}
use Rattle.ra_settings.specs.declared.value.SettingValue.{SettingValue}
use Rattle.ra_settings.specs.declared.value.SettingValue.TheVariants.{Text, TextsOrNull, Strategy, Discover}
use Rattle.layered_settings.specs.Search.{setting}
use Rattle.ra_config.specs.Config.{ConfigData}

abbrev pub is_once : SettingValue → Bool
is_once (Strategy Once) = true
is_once (Strategy PerWorkspace) = false
is_once other = false

-- one check runs for all workspaces: the setting `check.invocationStrategy` is `once`
abbrev pub runs_once : ConfigData → Bool
runs_once settings = is_once (setting CheckInvocationStrategy None settings.settings)

abbrev pub words_in : SettingValue → Option (List (List ℕ))
words_in (TextsOrNull words) = words
words_in other = None

-- the words of the command that is run in place of cargo's: the setting `check.overrideCommand`
abbrev pub words_set : ConfigData → Option (List (List ℕ))
words_set settings = words_in (setting CheckOverrideCommand None settings.settings)

abbrev pub text_in : SettingValue → List ℕ
text_in (Text text) = text
text_in other = []

-- the command of cargo: the setting `check.command`
abbrev pub cargo_command : ConfigData → List ℕ
cargo_command settings = text_in (setting CheckCommand None settings.settings)

abbrev pub label_of : Option DiscoverConfig → Option (List ℕ)
label_of None = None
label_of (Some config) = Some config.progress_label

abbrev pub label_in : SettingValue → Option (List ℕ)
label_in (Discover config) = label_of config
label_in other = None

-- under what discoveries are told, where projects are discovered: the setting `workspace.discoverConfig`
abbrev pub discovery_label : ConfigData → Option (List ℕ)
discovery_label settings = label_in (setting WorkspaceDiscoverConfig None settings.settings)
