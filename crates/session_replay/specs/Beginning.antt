-- The settings that a session begins with.
use Rattle.std.specs.Prelude.{Option, Some}
use Rattle.std.specs.Result.{result_ok}
use Rattle.ra_config.specs.Config.{ConfigData, config_at}
use Rattle.ra_config.specs.Initialize.{initial_config}
use Rattle.session_record.specs.declared.start.StartConfig.{StartConfig}
use Rattle.session_record.specs.declared.start.StartConfig.TheVariants.{New, Initialize}

abbrev pub config_of : StartConfig → Option ConfigData
config_of (New root threads) = Some (config_at root threads)
config_of (Initialize params threads) = result_ok (initial_config params threads)
