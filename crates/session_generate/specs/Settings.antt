-- The settings of a session over generated messages.
use Rattle.std.specs.Prelude.{false, [], codes, None, Some}
use Rattle.serde_json.specs.Data.{Data, boolean, object, no_members, put}
use Rattle.layered_settings.specs.Change.{after, no_settings}
use Rattle.layered_settings.specs.declared.change.ConfigChange.{ConfigChange}
use Rattle.ra_config.specs.Config.{ConfigData, config_at}

-- `{"enable": .. }`
abbrev pub switched : Data → Data
switched value = object (put (codes "enable") value no_members)

abbrev pub client_settings : Data
client_settings =
    object (put (codes "cachePriming") (switched (boolean false))
    (put (codes "diagnostics") (switched (boolean false)) no_members))

-- the client sets these two, and nothing else is set
abbrev pub quiet_change : ConfigChange
quiet_change = record {
  client = Some client_settings;
  user = None;
  workspace_toml = [];
  crate_toml = [];
  parents = None;
}

-- the root is `/w`, four threads may be used, and neither diagnostics nor primed caches are wanted
abbrev pub session_settings : ConfigData
session_settings = record (config_at (codes "/w") 4) { settings = after (codes "/w") quiet_change no_settings }
