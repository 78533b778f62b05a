-- The functions that a text defines: the names that stand right behind `fn` and one space.
use Rattle.std.specs.Prelude.{ℕ, zero, suc, ◌-◌, ◌&&◌, nat_le, bytes_eq, codes, Bool, List, slice_range}
use Rattle.std.specs.Prelude.{if◌then◌else◌, Option, None, Some}
use Rattle.std.specs.FinMap as map
use Rattle.plain.specs.Texts.{text_cmp}
use Rattle.small_analysis.specs.Names.{name_at}

-- `fn` and one space end at a place
abbrev pub follows_fn : List ℕ → ℕ → Bool
follows_fn text place = nat_le 3 place && bytes_eq (slice_range text (place - 3) place) (codes "fn ")

-- the name that is defined at a place, if one is
abbrev pub defined_at : List ℕ → ℕ → Option (List ℕ)
defined_at text place = if follows_fn text place then name_at text place else None

abbrev pub Names : Type 0
Names = map.FinMap text_cmp (Unit {0})

abbrev pub with_name : Option (List ℕ) → Names → Names
with_name None names = names
with_name (Some name) names = map.insert names name tt

-- the names that are defined before a place
abbrev pub defined_before : List ℕ → ℕ → Names
defined_before text zero = map.empty
defined_before text (suc n) = with_name (defined_at text n) (defined_before text n)
