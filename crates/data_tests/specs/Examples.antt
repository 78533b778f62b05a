-- Changes that the tests count rebuilds of, and look for skips among.
use Rattle.std.specs.Prelude.{ℕ, List, [], ◌∷◌, codes, Some, None}
use Rattle.text_core.specs.declared.position.PositionEncoding.{PositionEncoding}
use Rattle.text_core.specs.declared.position.PositionEncoding.TheVariants.{Wide}
use Rattle.text_core.specs.declared.position.WideEncoding.TheVariants.{Utf16}
use Rattle.text_core.specs.declared.change.ContentChange.{ContentChange}

abbrev pub utf16 : PositionEncoding
utf16 = Wide Utf16

abbrev pub edit_at : ℕ → ℕ → ℕ → ℕ → List ℕ → ContentChange
edit_at a b c d text =
    record { range = Some (record { start = record { line = a; character = b }; end = record { line = c; character = d } }); text = text }

-- `a`, `b` and `c`, each on a line of its own
abbrev pub three_lines : List ℕ
three_lines = 97 ∷ 10 ∷ 98 ∷ 10 ∷ 99 ∷ []

abbrev pub at_line : ℕ → ContentChange
at_line line = edit_at line 0 line 0 (codes "x")

-- a new line, an edit whose range is reversed by lines, and an edit past the first
abbrev pub with_reversed : List ContentChange
with_reversed = edit_at 1 0 1 0 (120 ∷ 121 ∷ 122 ∷ 10 ∷ []) ∷ edit_at 3 0 0 0 (codes "?") ∷ edit_at 2 0 2 1 (codes "B") ∷ []

abbrev pub whole_text : List ℕ → ContentChange
whole_text text = record { range = None; text = text }

abbrev pub insert : List ℕ → ContentChange
insert text = edit_at 0 0 0 0 text
