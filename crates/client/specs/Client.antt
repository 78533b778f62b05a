-- What is agreed with the client, and what was asked of it.
use Rattle.std.specs.Prelude.{ℕ, List, []}
use Rattle.ra_settings.specs.declared.error.ConfigError.{ConfigError}
use Rattle.ra_config.specs.Config.{ConfigData}
use Rattle.lsp_frame.specs.Outgoing.{Outgoing, none_waiting}
use Rattle.client.specs.declared.handler.ReqHandler.{ReqHandler}

pub record Client : Type 0 where
  pub settings : ConfigData
  -- the session's own requests that wait for an answer, each with what is to follow it
  pub asked : Outgoing ReqHandler
  -- the errors of the last change of the settings
  pub errors : List ConfigError

-- these settings, which were not changed, where so many numbers were given and nothing waits
abbrev pub new_client_at : ℕ → ConfigData → Client
new_client_at given settings = record { settings = settings; asked = none_waiting given; errors = [] }

abbrev pub new_client : ConfigData → Client
new_client settings = new_client_at 0 settings
