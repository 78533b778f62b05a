-- A text that is `file://` and a path of plain bytes names that path.
use Rattle.std.proofs.Common.{◌≡◌, ◌<◌, ◌≤◌, ℕ, Bool, true, false, not, ◌==◌, List, ◌++◌, length, get_or, All, Ok, sym, refl, ap, subst, lit<, ◌∙◌, ⊎_elim, arith}
use Rattle.std.specs.Prelude.{nat_lt}
use Rattle.std.specs.Char.{is_ascii_alphabetic}
use Rattle.std.specs.List.{list_all}
use Rattle.std.proofs.lemmas.Bool.{and_parts, and_left, and_right, cases_lt, cases_Bool, true≢false}
use Rattle.std.proofs.lemmas.Bool.Decides.{nat_tests}
use Rattle.std.proofs.lemmas.List.{get_or_past}
use Rattle.std.proofs.lemmas.List.Elements.{All-weaker}
use Rattle.std.proofs.lemmas.Str.{IsUtf8-from_ascii}
use Rattle.percent_encoding.specs.Percent.{IsKept}
use Rattle.percent_encoding.proofs.PercentLemmas.{IsByte, percent_encode_unchanged}
use Rattle.url.proofs.InputLemmas.{Passes, All_from_list_all}
use Rattle.docs_vfs.specs.declared.file_url.TheConstants.{ESCAPED}
use Rattle.docs_vfs.specs.Paths.{is_path}
use Rattle.docs_vfs.specs.FileUrls.{is_escaped, is_plain, is_plain_path, url_front, url_of, path_of, max_url, begins_with_drive}
use Rattle.docs_vfs.proofs.Escapes.{above, escapes}
use Rattle.docs_vfs.proofs.RoundTrip.{round_trip}

negated : (x : Bool) → not x ≡ true → x ≡ false
negated true is = absurd (true≢false (sym is))
negated false is = refl

unescaped : (b : ℕ) → is_plain b ≡ true → is_escaped b ≡ false
unescaped b plain = negated (is_escaped b) (and_parts (not (is_escaped b)) (not (b == 124)) plain).0

no_bar : (b : ℕ) → is_plain b ≡ true → (b == 124) ≡ false
no_bar b plain = negated (b == 124) (and_parts (not (is_escaped b)) (not (b == 124)) plain).1

kept : (b : ℕ) → is_plain b ≡ true → IsKept ESCAPED b
kept b plain = escapes b ∙ unescaped b plain

small : (b : ℕ) → is_plain b ≡ true → b < 127
small b plain =
    ⊎_elim
    (λ high. absurd (true≢false (sym (above b high) ∙ unescaped b plain)))
    (λ low. grind (arith, nat_tests))
    (cases_Bool (nat_lt 126 b))

plain_at : (path : List ℕ) → All (Passes is_plain) path → (P : ℕ → Type 0) → P 0 → ((b : ℕ) → is_plain b ≡ true → P b) → (i : ℕ) → P (get_or path i 0)
plain_at path plain P none each i =
    ⊎_elim
    (λ inside. each (get_or path i 0) (plain i 0 inside))
    (λ past. subst P (sym (get_or_past path i 0 past)) none)
    (cases_lt i (length path))

no_drive : (path : List ℕ) → All (Passes is_plain) path → begins_with_drive path ≡ false
no_drive path plain = and_left _ _ (and_right (is_ascii_alphabetic (get_or path 1 0)) _ (plain_at path plain (λ b. (b == 124) ≡ false) refl no_bar 2))

path_named : (path : List ℕ) → is_plain_path path ≡ true → length (url_front ++ path) ≤ max_url → path_of (url_front ++ path) ≡ Ok path
unfolding url_of
path_named path is fits =
    let both = and_parts (list_all is_plain path) (is_path path) is in
    let plain = All_from_list_all is_plain path both.0 in
    let text = IsUtf8-from_ascii path (plain_at path plain (λ b. b < 128) (lit< tt) (λ b is. omega (arith, small b is))) in
    let bytes = All-weaker (Passes is_plain) IsByte (λ b is. omega (arith, small b is)) path plain in
    let same : url_of path ≡ url_front ++ path = ap (λ l. url_front ++ l) (percent_encode_unchanged ESCAPED path (All-weaker (Passes is_plain) (IsKept ESCAPED) kept path plain)) in
    ap path_of (sym same) ∙ round_trip path both.1 text bytes (subst (λ l. length l ≤ max_url) (sym same) fits) (no_drive path plain)

-- a text that is `file://` and a path of plain bytes names that path
pub plain_names : (url path : List ℕ) → url ≡ url_front ++ path → is_plain_path path ≡ true → length url ≤ max_url → path_of url ≡ Ok path
plain_names url path is plain fits = ap path_of is ∙ path_named path plain (subst (λ l. length l ≤ max_url) is fits)
