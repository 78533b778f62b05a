-- Brackets of a text, and which of them match: `()`, `[]` and `{}`, by a stack over the whole text.
use Rattle.std.specs.Prelude.{◌≡◌, ◌<◌, ◌⊎◌, ℕ, zero, suc, ◌==◌, ◌&&◌, ◌||◌, Bool, true, List, [], ◌∷◌, length}
use Rattle.std.specs.Prelude.{slice_index, if◌then◌else◌, Option, Some, None, option_and_then}
use Rattle.std.specs.FinMap as map
use Rattle.std.specs.Ordering.{nat_cmp}
use Rattle.small_analysis.specs.declared.brackets.Bracket.{Bracket}

-- `(`, `[` or `{`
abbrev pub is_opener : ℕ → Bool
is_opener b = b == 40 || b == 91 || b == 123

-- an opener, or `)`, `]` or `}`
abbrev pub is_bracket : ℕ → Bool
is_bracket b = is_opener b || b == 41 || b == 93 || b == 125

-- a closer of the opener's kind
abbrev pub closes : ℕ → ℕ → Bool
closes opener b = opener == 40 && b == 41 || opener == 91 && b == 93 || opener == 123 && b == 125

-- the openers that are open, the innermost first, and the partner of each bracket that is matched, by its place
pub record Brackets : Type 0 where
  pub openers : List Bracket
  pub partners : map.FinMap nat_cmp Bracket

abbrev pub no_brackets : Brackets
no_brackets = record { openers = []; partners = map.empty }

-- the opener that a byte closes: the innermost one, where it is of its kind
abbrev pub opener_of : Bracket → List Bracket → Option Bracket
opener_of here [] = None
opener_of here (top ∷ below) = if closes top.byte here.byte then Some top else None

-- the openers without the one that a byte closes
abbrev pub left_by : Bracket → List Bracket → List Bracket
left_by here [] = []
left_by here (top ∷ below) = if closes top.byte here.byte then below else top ∷ below

-- the openers that are open once there is one byte more
abbrev pub openers_with : Bracket → List Bracket → List Bracket
openers_with here openers = if is_opener here.byte then here ∷ openers else left_by here openers

-- a bracket and the opener that it closes are partners
abbrev pub paired : Bracket → Option Bracket → map.FinMap nat_cmp Bracket → map.FinMap nat_cmp Bracket
paired here None partners = partners
paired here (Some opener) partners = map.insert (map.insert partners opener.place here) here.place opener

-- one byte more: an opener is open, a closer of the innermost opener matches it, and any other byte changes nothing
abbrev pub with_byte : Bracket → Brackets → Brackets
with_byte here brackets = record {
  openers = openers_with here brackets.openers;
  partners = paired here (opener_of here brackets.openers) brackets.partners;
}

-- the byte at a place
abbrev pub located : List ℕ → ℕ → Bracket
located text place = record { place = place; byte = slice_index text place }

-- the brackets among the first bytes of a text
abbrev pub brackets_before : List ℕ → ℕ → Brackets
brackets_before text zero = no_brackets
brackets_before text (suc n) = with_byte (located text n) (brackets_before text n)

-- the partner of each bracket of a text that is matched
abbrev pub partners_of : List ℕ → map.FinMap nat_cmp Bracket
partners_of text = (brackets_before text (length text)).partners

-- an opener and a closer of its kind after it
pub record IsPair (opener closer : Bracket) : Type 0 where
  pub order : opener.place < closer.place
  pub kind : closes opener.byte closer.byte ≡ true

-- a place and its partner: a bracket of the text, whose partner is the one at the place
pub record AreMatched (text : List ℕ) (partners : map.FinMap nat_cmp Bracket) (place : ℕ) (partner : Bracket) : Type 0
  where
    pub there : partner ≡ located text partner.place
    pub back : map.get partners partner.place ≡ Some (located text place)
    pub pair : IsPair (located text place) partner ⊎ IsPair partner (located text place)

abbrev pub IsMatching : List ℕ → map.FinMap nat_cmp Bracket → Type 0
IsMatching text partners =
    (place : ℕ) (partner : Bracket) → map.get partners place ≡ Some partner → AreMatched text partners place partner

-- pairs nest: the partner of what stands between a bracket and its partner stands between them too
abbrev pub AreNested : map.FinMap nat_cmp Bracket → Type 0
AreNested partners =
    (outer inner : ℕ) (its other : Bracket) → map.get partners outer ≡ Some its → map.get partners inner ≡ Some other
    → outer < inner → inner < its.place → (outer < other.place) × (other.place < its.place)

-- a bracket stands at a place
abbrev pub is_bracket_at : List ℕ → ℕ → Bool
is_bracket_at text place = is_bracket (slice_index text place)

-- the place right before, where a bracket is there
abbrev pub bracket_before : List ℕ → ℕ → Option ℕ
bracket_before text zero = None
bracket_before text (suc place) = if is_bracket_at text place then Some place else None

-- the place itself where a bracket is there, else the one right before it
abbrev pub bracket_near : List ℕ → ℕ → Option ℕ
bracket_near text place = if is_bracket_at text place then Some place else bracket_before text place

-- the bracket that matches the one near a place
abbrev pub partner_near : List ℕ → ℕ → Option Bracket
partner_near text place = option_and_then (map.get (partners_of text)) (bracket_near text place)
