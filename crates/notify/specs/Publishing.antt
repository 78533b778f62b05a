-- The diagnostics of a file (LSP 3.17, PublishDiagnosticsParams).
use Rattle.std.specs.Prelude.{ℕ, ℤ, List, codes, Option}
use Rattle.std.specs.Option.{option_map}
use Rattle.serde_json.specs.Data.{Data, number, string, object, no_members, put}
use Rattle.serde_json.specs.Find.{of_integer}
use Rattle.lsp_frame.specs.Written.{put_some}
use Rattle.lsp_types.specs.declared.diagnostic.Diagnostic.{Diagnostic}
use Rattle.lsp_types.specs.Values.{diagnostic_value, list_value}

abbrev pub version_value : Option ℤ → Option Data
version_value version = option_map (λ n. number (of_integer n)) version

-- `{"diagnostics":[..],"uri":U,"version":N}`, without a version where the file isn't open
abbrev pub publish_params : List Diagnostic → List ℕ → Option ℤ → Data
publish_params diagnostics uri version =
    object (put_some (codes "version") (version_value version) (put (codes "uri") (string uri)
    (put (codes "diagnostics") (list_value diagnostic_value diagnostics) no_members)))
