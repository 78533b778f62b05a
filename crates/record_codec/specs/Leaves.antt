-- How the leaves of events are spelled: numbers of files, paths, JSON.
use Rattle.std.specs.Prelude.{ℕ, List, refl}
use Rattle.docs_vfs.specs.Paths.{is_path}
use Rattle.docs_vfs.specs.declared.file_kinds.FileId.{FileId}
use Rattle.serde_json.specs.Data.{Data}
use Rattle.serde_json.specs.Written.{compact_text}
use Rattle.plain.specs.Plain.{is_plain}
use Rattle.plain.specs.Reading.{read_body}
use Rattle.plain.specs.Same.{is_same_data, data_told}
use Rattle.record_codec.specs.Codec.{Codec, by_parts, passing}
use Rattle.record_codec.specs.Numbers.{number32, text}
use Rattle.record_codec.specs.Spoken.{spoken}

unfoldable pub file : Codec FileId
file = by_parts (λ x. x.0) (λ n. record { 0 = n }) (λ x. refl) (λ n. refl) number32

unfoldable pub path : Codec (List ℕ)
path = passing is_path text

-- the compact text of a plain value, which reads as that value
unfoldable pub json : Codec Data
json = spoken compact_text read_body is_plain is_same_data data_told
