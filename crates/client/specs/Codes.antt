-- How the logic stores what contracts see of a client.
use Rattle.std.specs.Prelude.{List, refl}
use Rattle.std.specs.Coded.{Coded, code_by, coded×}
use Rattle.ra_settings.specs.contracts.error.ConfigErrors as errors_row
use Rattle.ra_settings.specs.declared.error.ConfigError.{ConfigError}
use Rattle.ra_config.specs.Codes.{config_code}
use Rattle.ra_config.specs.Config.{ConfigData}
use Rattle.lsp_frame.specs.Outgoing.{Outgoing, outgoing_code}
use Rattle.client.specs.Client.{Client}
use Rattle.client.specs.declared.handler.ReqHandler.{ReqHandler}

-- given how it is stored what follows an answer
abbrev pub client_code : Coded ReqHandler → Coded Client
client_code handler =
    code_by (ConfigData × (Outgoing ReqHandler × List ConfigError))
    (coded× config_code (coded× (outgoing_code handler) errors_row.the_row.coded))
    (λ c. (c.settings, (c.asked, c.errors))) (λ p. record { settings = p.0; asked = p.1.0; errors = p.1.1 }) (λ _. refl)
