-- The errors of requests as they are shown.
use Rattle.std.specs.Prelude.{ℕ, ℤ, negsuc, List, ◌++◌, codes}
use Rattle.std.specs.Fmt.{signed_decimal}

-- -32602 (JSON-RPC 2.0, "Invalid params")
abbrev pub invalid_params_code : ℤ
invalid_params_code = negsuc 32601

-- `Language Server request failed with {code}. ({message})`
abbrev pub error_text : ℤ → List ℕ → List ℕ
error_text code message =
    codes "Language Server request failed with " ++ (signed_decimal code ++ (codes ". (" ++ (message ++ codes ")")))
