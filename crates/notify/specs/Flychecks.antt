-- The file that is to be checked.
use Rattle.std.specs.Prelude.{ℕ, List, codes, if◌then◌else◌, Option, Some, None, option_map, option_and_then}
use Rattle.plain.specs.Reading.{is_null}
use Rattle.serde_json.specs.Data.{Data}
use Rattle.serde_json.specs.Find.{get_member, as_object}
use Rattle.lsp_types.specs.Documents.{take_uri}

-- a document that is absent or null is none
abbrev pub checked : Option Data → Option (Option (List ℕ))
checked None = Some None
checked (Some d) = if is_null d then Some None else option_map Some (take_uri d)

-- the file, if it is one, or none where the params are malformed
abbrev pub checked_in : Data → Option (Option (List ℕ))
checked_in params = option_and_then (λ ms. checked (get_member (codes "textDocument") ms)) (as_object params)
