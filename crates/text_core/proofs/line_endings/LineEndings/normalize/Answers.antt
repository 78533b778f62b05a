use Rattle.std.proofs.Common.{◌≡◌, subst, string_bytes}
use Rattle.std.specs.Str.{IsUtf8}
use Rattle.std.proofs.lemmas.Str.{IsUtf8-string_bytes}
use Rattle.text_core.specs.LineEnds.{normalized}
use Rattle.text_core.proofs.LineEndLemmas.{normalized-IsUtf8}
use Rattle.text_core.proofs.line_endings.LineEndings.normalize.Goals as goal

pub from_utf8_unchecked-text-requires : goal.from_utf8_unchecked-text-requires
from_utf8_unchecked-text-requires c =
    let old : IsUtf8 (string_bytes c.into_string.result) = IsUtf8-string_bytes c.into_string.result in
    let same : normalized (string_bytes c.into_string.result) ≡ c.close_gaps-seen.new.bytes.items = cc in
    subst IsUtf8 same (normalized-IsUtf8 (string_bytes c.into_string.result) old)
