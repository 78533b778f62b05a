-- The ends of lines: LF, or CR LF.
use Rattle.std.specs.Prelude.{ℕ, ◌+◌, ◌==◌, ◌&&◌, Bool, false, List, [], ◌∷◌, if◌then◌else◌, is_some, Option, Some, None}
use Rattle.std.specs.List.{list_any}
use Rattle.std.specs.Option.{option_map}
use Rattle.text_core.specs.Positions.{ends_line}
use Rattle.text_core.specs.declared.line_endings.LineEndings.{LineEndings}
use Rattle.text_core.specs.declared.line_endings.LineEndings.TheVariants.{Unix, Dos}

-- a CR stands somewhere, before an LF or not
abbrev pub has_cr : List ℕ → Bool
has_cr text = list_any (λ b. b == 13) text

abbrev pub begins_with_lf : List ℕ → Bool
begins_with_lf [] = false
begins_with_lf (b ∷ rest) = ends_line b

-- a CR right before an LF
abbrev pub is_crlf : ℕ → List ℕ → Bool
is_crlf b rest = b == 13 && begins_with_lf rest

-- the text with LF for each CR LF: it loses each CR that stands right before an LF
abbrev pub normalized : List ℕ → List ℕ
normalized [] = []
normalized (b ∷ rest) = if is_crlf b rest then normalized rest else b ∷ normalized rest

-- the first CR LF
abbrev pub crlf_place : List ℕ → Option ℕ
crlf_place [] = None
crlf_place (b ∷ rest) = if is_crlf b rest then Some 0 else option_map (λ n. 1 + n) (crlf_place rest)

-- Dos exactly where there is a CR LF
abbrev pub endings_of : List ℕ → LineEndings
endings_of text = if is_some (crlf_place text) then Dos else Unix
