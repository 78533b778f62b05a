-- Edits of a text that are put off: each stands in front of those before it, so all stand where they did in the text as it is.
use Rattle.std.specs.Prelude.{◌≡◌, ℕ, ◌≤◌, List, [], ◌∷◌, length, Option, Some, None}
use Rattle.std.specs.List.{replace_range}
use Rattle.std.specs.String.Boundary.{IsSplitPoint}
use Rattle.text_core.specs.Positions.{line_start}
use Rattle.text_core.specs.declared.splices.Splice.{Splice}

-- the text that splices leave, each made on the text that those before it leave
abbrev pub spliced : List ℕ → List Splice → List ℕ
spliced text [] = text
spliced text (s ∷ later) = spliced (replace_range text s.start s.end s.text.now) later

-- a part of a text up to a place at most
pub record IsPart (text : List ℕ) (most start end : ℕ) : Type 0 where
  pub rising : start ≤ end
  pub below : end ≤ most
  pub start_split : IsSplitPoint text start
  pub end_split : IsSplitPoint text end

-- each splice ends at or before the place where the one before it begins
abbrev pub Fall : List ℕ → ℕ → List Splice → Type 0
Fall text most [] = Unit {0}
Fall text most (s ∷ later) = IsPart text most s.start s.end × Fall text s.start later

-- where the last splice begins
abbrev pub lowest : ℕ → List Splice → ℕ
lowest most [] = most
lowest most (s ∷ later) = lowest s.start later

-- the least line at which an edit was made begins at or before the last splice. Without such a line nothing was put off
abbrev pub AreBehind : List ℕ → List Splice → Option ℕ → Type 0
AreBehind text splices None = splices ≡ []
AreBehind text splices (Some least) = (k : ℕ) × (line_start least text ≡ Some k) × (k ≤ lowest (length text) splices)
