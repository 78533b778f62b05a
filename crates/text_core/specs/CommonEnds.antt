-- What an edited text has in common with the text before.
use Rattle.std.specs.Prelude.{◌≡◌, ℕ, ◌+◌, ◌-◌, ◌≤◌, List, length, take, drop, Option, Some, None}
use Rattle.text_core.specs.declared.ends.CommonEnds.{CommonEnds}

-- so many bytes in front and at the end of a text are those of the text before
pub record HasEnds (before text : List ℕ) (ends : CommonEnds) : Type 0 where
  pub front : take ends.front text ≡ take ends.front before
  pub back : drop (length text - ends.back) text ≡ drop (length before - ends.back) before
  pub within : ends.front + ends.back ≤ length text
  pub within_before : ends.front + ends.back ≤ length before

-- without ends no edit was made
abbrev pub ComesFrom : List ℕ → List ℕ → Option CommonEnds → Type 0
ComesFrom before text None = text ≡ before
ComesFrom before text (Some ends) = HasEnds before text ends
