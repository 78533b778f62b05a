-- Paths with one URL are one path.
use Rattle.std.proofs.Common.{◌≡◌, ℕ, List, All, sym, refl, ap, ◌∙◌}
use Rattle.std.proofs.lemmas.List.{append_cancel_left}
use Rattle.std.proofs.lemmas.List.Elements.{All-weaker}
use Rattle.percent_encoding.specs.AsciiSet.{should_percent_encode}
use Rattle.percent_encoding.specs.Percent.{percent_encode, percent_decode}
use Rattle.percent_encoding.proofs.AsciiSetLemmas.{escaped_from_inside}
use Rattle.percent_encoding.proofs.PercentLemmas.{IsByte, EscapesPercent, percent_decode-percent_encode}
use Rattle.docs_vfs.specs.declared.file_url.TheConstants.{ESCAPED}
use Rattle.docs_vfs.specs.FileUrls.{url_front, url_of}
use Rattle.diagnostics_laws.proofs.StandingShown.{UrlsDiffer}

percent_is_escaped : (b : ℕ) → IsByte b → EscapesPercent ESCAPED b
percent_is_escaped b small same = ap (should_percent_encode ESCAPED) same ∙ escaped_from_inside ESCAPED 37 refl

decoded : (text : List ℕ) → All IsByte text → percent_decode (percent_encode ESCAPED text) ≡ text
decoded text small = percent_decode-percent_encode ESCAPED text small (All-weaker IsByte (EscapesPercent ESCAPED) percent_is_escaped text small)

pub urls-differ : UrlsDiffer
unfolding url_of
urls-differ one other small small_other same =
    sym (decoded one small)
    ∙ ap percent_decode (append_cancel_left url_front (percent_encode ESCAPED one) (percent_encode ESCAPED other) same)
    ∙ decoded other small_other
