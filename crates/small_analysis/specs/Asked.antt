-- The partners of some brackets alone: of those at the places that are asked for.
use Rattle.std.specs.Prelude.{◌≡◌, ℕ, Bool, true, List, is_some, if◌then◌else◌, Option, None, Some}
use Rattle.std.specs.FinMap as map
use Rattle.std.specs.Ordering.{nat_cmp}
use Rattle.small_analysis.specs.Brackets.{bracket_near}
use Rattle.small_analysis.specs.Positions.{place_in}
use Rattle.small_analysis.specs.declared.brackets.Bracket.{Bracket}
use Rattle.text_core.specs.declared.position.Position.{Position}
use Rattle.text_core.specs.declared.position.PositionEncoding.{PositionEncoding}

abbrev pub Places : Type 0
Places = map.FinMap nat_cmp (Unit {0})

abbrev pub is_asked : Places → ℕ → Bool
is_asked asked place = is_some (map.get asked place)

-- the bracket near a place is asked for
abbrev pub IsAskedNear : List ℕ → Places → ℕ → Type 0
IsAskedNear text asked place = (near : ℕ) → bracket_near text place ≡ Some near → is_asked asked near ≡ true

-- the bracket near a position is asked for
abbrev pub IsAsked : PositionEncoding → List ℕ → Places → Position → Type 0
IsAsked encoding text asked position = (place : ℕ) → place_in encoding text position ≡ Some place
    → IsAskedNear text asked place

-- each bracket that is asked for has the partner that it has among all
abbrev pub KeepsAsked : Places → map.FinMap nat_cmp Bracket → map.FinMap nat_cmp Bracket → Type 0
KeepsAsked asked all kept = (place : ℕ) → is_asked asked place ≡ true → map.get kept place ≡ map.get all place

-- a partner more, where its bracket is asked for
abbrev pub with_partner : Places → map.FinMap nat_cmp Bracket → ℕ → Bracket → map.FinMap nat_cmp Bracket
with_partner asked partners place partner = if is_asked asked place then map.insert partners place partner else partners

-- a bracket and the opener that it closes are partners, of which those are kept that are asked for
abbrev pub paired_asked : Places → Bracket → Option Bracket → map.FinMap nat_cmp Bracket → map.FinMap nat_cmp Bracket
paired_asked asked here None partners = partners
paired_asked asked here (Some opener) partners =
    with_partner asked (with_partner asked partners opener.place here) here.place opener
