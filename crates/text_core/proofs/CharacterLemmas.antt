-- Columns of characters never stand inside a character.
use Rattle.std.proofs.Common.{◌≡◌, ℕ, ◌+◌, ◌-◌, ◌<◌, ◌≤◌, Bool, true, false, not, ◌&&◌, ◌==◌, cond, List, [], ◌∷◌, Option, Some, None, Result, Ok, Err, inl, inr, refl, sym, ap, ◌∙◌, arith}
use Rattle.std.specs.Prelude.{nat_lt}
use Rattle.std.proofs.lemmas.Bool.{cases_lt, cond-true, cond-false, le-leb, lt-leb}
use Rattle.std.proofs.lemmas.Bool.Decides.{nat_tests}
use Rattle.text_core.specs.declared.position.OffsetFault.{OffsetFault}
use Rattle.text_core.specs.declared.position.OffsetFault.TheVariants.{InsideCharacter}
use Rattle.text_core.specs.declared.position.Position.{Position}
use Rattle.text_core.specs.declared.position.PositionEncoding.{PositionEncoding}
use Rattle.text_core.specs.declared.position.PositionEncoding.TheVariants.{Wide}
use Rattle.text_core.specs.declared.position.Range.{Range}
use Rattle.text_core.specs.declared.position.WideEncoding.TheVariants.{Utf32}
use Rattle.text_core.specs.Positions.{after, from_to, in_line, is_inside, line_start, past_units, place_of, range_of, units}
use Rattle.text_core.proofs.LineLemmas.{further}
use Rattle.text_core.proofs.StartLemmas.{none_some}

-- a first byte that a column of characters ends before
first_of : (column : ℕ) (inside : Bool) → column < cond inside 0 1 → (column == 0 && not inside) ≡ true
first_of column true h = absurd (omega arith)
first_of column false h = grind (arith, nat_tests, h)

further_none : (i : ℕ) (o : Option ℕ) → further i o ≡ None → o ≡ None
further_none i None is = is
further_none i (Some n) is = absurd (none_some (i + n) (sym is))

past_characters : (column : ℕ) (line : List ℕ) → past_units (Wide Utf32) column line ≡ None → ⊥
past_characters column [] is = none_some 0 (sym is)
past_characters column (b ∷ rest) is =
    elim (cases_lt column (units (Wide Utf32) b)) [
      | inl above ↦
          none_some 0 (sym is ∙ cond-false _ _ _ (lt-leb _ _ above) ∙ cond-true _ _ _ (first_of column (is_inside b) above))
      | inr fits ↦
          let left = past_units (Wide Utf32) (column - units (Wide Utf32) b) rest in
          past_characters (column - units (Wide Utf32) b) rest (further_none 1 left (sym (cond-true _ _ _ (le-leb _ _ fits)) ∙ is))
    ]

abbrev Inside : {A : Type 0} → Result A OffsetFault → Type 0
Inside r = r ≡ Err InsideCharacter

after_some : (start : ℕ) (o : Option ℕ) → (o ≡ None → ⊥) → Inside (after start o) → ⊥
after_some start None some is = some refl
after_some start (Some n) some is = cc

in_line_characters : (text : List ℕ) (position : Position) (start : Option ℕ) → Inside (in_line (Wide Utf32) text position start) → ⊥
in_line_characters text position None is = cc
in_line_characters text position (Some start) is = after_some start _ (past_characters position.character _) is

place_of_characters : (text : List ℕ) (position : Position) → Inside (place_of (Wide Utf32) text position) → ⊥
place_of_characters text position is = in_line_characters text position (line_start position.line text) is

in_order : (one other : ℕ) (b : Bool) → nat_lt other one ≡ b → Inside (from_to (Ok one) (Ok other)) → ⊥
in_order one other true back is = let e = sym (cond-true _ _ _ back) ∙ is in cc
in_order one other false back is = let e = sym (cond-false _ _ _ back) ∙ is in cc

from_to_characters : (one other : Result ℕ OffsetFault) → (Inside one → ⊥) → (Inside other → ⊥) → Inside (from_to one other) → ⊥
from_to_characters (Err fault) other start end is = start (let same : fault ≡ InsideCharacter = cc in ap Err same)
from_to_characters (Ok one) (Err fault) start end is = end (let same : fault ≡ InsideCharacter = cc in ap Err same)
from_to_characters (Ok one) (Ok other) start end is = in_order one other _ refl is

range_of_characters : (text : List ℕ) (range : Range) → Inside (range_of (Wide Utf32) text range) → ⊥
range_of_characters text range is = from_to_characters _ _ (place_of_characters text range.start) (place_of_characters text range.end) is

-- the same of what was found
pub place-characters : (e : PositionEncoding) (text : List ℕ) (position : Position) (r : Result ℕ OffsetFault) → r ≡ place_of e text position
    → e ≡ Wide Utf32 → r ≡ Err InsideCharacter → ⊥
place-characters e text position r found wide is = place_of_characters text position (ap (λ e. place_of e text position) (sym wide) ∙ sym found ∙ is)

pub range-characters : (e : PositionEncoding) (text : List ℕ) (range : Range) (r : Result (ℕ × ℕ) OffsetFault) → r ≡ range_of e text range
    → e ≡ Wide Utf32 → r ≡ Err InsideCharacter → ⊥
range-characters e text range r found wide is = range_of_characters text range (ap (λ e. range_of e text range) (sym wide) ∙ sym found ∙ is)
