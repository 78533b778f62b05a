-- The bytes that the URL of a path escapes, one by one.
use Rattle.std.proofs.Common.{◌≡◌, ℕ, ◌<◌, true, false, not, ◌||◌, ◌==◌, sym, ap, ◌∙◌, ⊎_elim, arith, refl}
use Rattle.std.specs.Prelude.{nat_lt, codes, ◌∷◌}
use Rattle.std.specs.List.{list_any}
use Rattle.std.specs.Char.{is_ascii}
use Rattle.std.proofs.lemmas.Bool.{agree_below_at, cases_Bool, or_right}
use Rattle.std.proofs.lemmas.Bool.Decides.{nat_tests}
use Rattle.percent_encoding.specs.AsciiSet.{contains, should_percent_encode}
use Rattle.docs_vfs.specs.declared.file_url.TheConstants.{ESCAPED}
use Rattle.docs_vfs.specs.FileUrls.{is_escaped}

beyond : (b : ℕ) → is_ascii b ≡ false → nat_lt 126 b ≡ true
beyond b not_ascii = grind (arith, nat_tests)

within : (b : ℕ) → is_ascii b ≡ true → b < 128
within b ascii = grind (arith, nat_tests)

pub above : (b : ℕ) → nat_lt 126 b ≡ true → is_escaped b ≡ true
above b high = ap (λ x. x || list_any (λ mark. mark == b) (34 ∷ 92 ∷ codes " #%<>?`{}")) (or_right (nat_lt b 32) (nat_lt 126 b) high)

pub escapes : (b : ℕ) → should_percent_encode ESCAPED b ≡ is_escaped b
unfolding should_percent_encode
escapes b =
    ⊎_elim
    (λ ascii. ap (λ x. not x || contains ESCAPED b) ascii ∙ agree_below_at (contains ESCAPED) is_escaped 128 b refl (within b ascii))
    (λ not_ascii. ap (λ x. not x || contains ESCAPED b) not_ascii ∙ sym (above b (beyond b not_ascii)))
    (cases_Bool (is_ascii b))
