-- Whether edits stand apart.
use Rattle.std.specs.Prelude.{◌≡◌, ◌&&◌, ◌||◌, ◌==◌, nat_lt, nat_le, Bool, true, false, List, [], ◌∷◌, ◌++◌, map, if◌then◌else◌, ◌⊎◌}
use Rattle.std.specs.List.Sorted.{IsPermutation}
use Rattle.text_core.specs.declared.position.Position.{Position}
use Rattle.text_core.specs.declared.position.Range.{Range}
use Rattle.text_core.specs.declared.change.TextEdit.{TextEdit}
use Rattle.text_core.specs.declared.change.CompletionEdit.{CompletionEdit}
use Rattle.text_core.specs.declared.change.CompletionEdit.TheVariants.{None, Edit, InsertAndReplace}

-- the same position
abbrev pub is_at : Position → Position → Bool
is_at a b = a.line == b.line && a.character == b.character

-- one position is no later than another
abbrev pub at_most : Position → Position → Bool
at_most a b = nat_lt a.line b.line || (a.line == b.line && nat_le a.character b.character)

-- insert begins where replace begins, isn't reversed, and ends no later than replace
abbrev pub is_prefix : Range → Range → Bool
is_prefix insert replace = is_at replace.start insert.start && at_most insert.start insert.end && at_most insert.end replace.end

abbrev pub is_lawful : CompletionEdit → Bool
is_lawful None = true
is_lawful (Edit range) = true
is_lawful (InsertAndReplace insert replace) = is_prefix insert replace

-- of insert and replace the replace alone
abbrev pub own_range : CompletionEdit → List Range
own_range None = []
own_range (Edit range) = range ∷ []
own_range (InsertAndReplace insert replace) = replace ∷ []

-- all ranges of a completion
abbrev pub ranges_of : CompletionEdit → List TextEdit → List TextEdit → List Range
ranges_of edit own more = own_range edit ++ map (λ e. e.range) own ++ map (λ e. e.range) more

-- by start, then by end
abbrev pub in_order : Range → Range → Bool
in_order a b = if is_at a.start b.start then at_most a.end b.end else at_most a.start b.start

abbrev pub ends_before : Range → List Range → Bool
ends_before a [] = true
ends_before a (b ∷ rest) = at_most a.end b.start

-- each range ends no later than the next starts
abbrev pub is_chain : List Range → Bool
is_chain [] = true
is_chain (a ∷ rest) = ends_before a rest && is_chain rest

abbrev pub comes_first : Range → List Range → Bool
comes_first a [] = true
comes_first a (b ∷ rest) = in_order a b

abbrev pub is_sorted : List Range → Bool
is_sorted [] = true
is_sorted (a ∷ rest) = comes_first a rest && is_sorted rest

-- the ranges, sorted, are a chain or not
pub record ChainTells (ranges : List Range) (answer : Bool) : Type 0 where
  pub sorted : List Range
  pub same : IsPermutation ranges sorted
  pub rises : is_sorted sorted ≡ true
  pub chain : answer ≡ is_chain sorted

abbrev pub TellsApart : Bool → List Range → Bool → Type 0
TellsApart true ranges answer = ChainTells ranges answer
TellsApart false ranges answer = answer ≡ false

-- a range isn't reversed
abbrev pub IsForward : Range → Type 0
IsForward range = at_most range.start range.end ≡ true

-- of two ranges one ends no later than the other starts
abbrev pub AreApart : Range → Range → Type 0
AreApart a b = (at_most a.end b.start ≡ true) ⊎ (at_most b.end a.start ≡ true)
