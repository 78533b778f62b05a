-- Ids as a log line has them, and errors of settings as they are told.
use Rattle.std.specs.Prelude.{ℕ, ◌==◌, List, length, codes, Option, None, Some, if◌then◌else◌}
use Rattle.std.specs.Fmt.{signed_decimal}
use Rattle.ra_settings.specs.Shown.{errors_text}
use Rattle.ra_settings.specs.declared.error.ConfigError.{ConfigError}
use Rattle.lsp_frame.specs.declared.message.RequestId.{RequestId}
use Rattle.lsp_frame.specs.declared.message.RequestId.TheVariants.{Number, Text}

abbrev pub id_text : Option RequestId → List ℕ
id_text None = codes "null"
id_text (Some (Number number)) = signed_decimal number
id_text (Some (Text text)) = text

-- errors in one text, where there are any
abbrev pub errors_told : List ConfigError → Option (List ℕ)
errors_told errors = if length errors == 0 then None else Some (errors_text errors)
