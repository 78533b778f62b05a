-- A line past the last is empty.
use Rattle.std.proofs.Common.{◌≡◌, ℕ, ◌<◌, ◌↔◌, List, [], Bor, refl, sym, ap, ◌∙◌}
use Rattle.std.specs.Option.{option_map, unwrap_or}
use Rattle.std.specs.Prelude.{Option, None, Some, false, is_some, IfSome, IsNone}
use Rattle.std.specs.List.{before_first, count_by}
use Rattle.text_core.specs.Lines.{bytes_in, line_text}
use Rattle.text_core.specs.Positions.{ends_line, line_end, line_start}
use Rattle.text_core.proofs.LineTextLemmas.{none_past}

no_line : (text : List ℕ) (line : ℕ) (start : Option ℕ) → is_some start ≡ false
    → before_first ends_line (bytes_in text (option_map (λ at. (at, line_end line text)) start)) ≡ []
no_line text line None h = refl
no_line text line (Some at) h = absurd cc

past_is_empty : (text : List ℕ) (line : ℕ) → count_by ends_line text < line → line_text text line ≡ []
past_is_empty text line past = no_line text line (line_start line text) ((none_past text line).1 past)

-- a line that is lent, or else an empty text
pub line_is : (text : List ℕ) (line : ℕ) (found : Option (Bor (List ℕ))) (empty part : Bor (List ℕ)) → IfSome found (λ p. p.now ≡ line_text text line)
    → (IsNone found ↔ (count_by ends_line text < line)) → part ≡ unwrap_or found empty → empty.now ≡ [] → part.now ≡ line_text text line
line_is text line None empty part some none is nothing = ap (λ b. b.now) is ∙ nothing ∙ sym (past_is_empty text line (none.0 refl))
line_is text line (Some p) empty part some none is nothing = ap (λ b. b.now) is ∙ some
