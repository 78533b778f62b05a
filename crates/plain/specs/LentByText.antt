-- What a map by texts ends as where a `&mut` to a value is returned.
use Rattle.std.specs.Prelude.{◌≡◌, ℕ, Bool, List, Option, OnSome}
use Rattle.std.specs.Borrow.{LendsSo, Fml, RattleType, MutBor}
use Rattle.std.specs.FinMap as map
use Rattle.plain.specs.Texts.{text_cmp}
use Rattle.std.specs.declared.cmp.Ordering.{Ordering}
use Rattle.plain.specs.contracts.by_text.ByText.{the_row}

-- what a clause has as K.TextKey
abbrev pub KeyMembers : Type 0 → Type 0
KeyMembers K = record { partial_cmp : K → K → Option Ordering; eq : K → K → Bool; cmp : K → K → Ordering; text : K → List ℕ }

-- the row of a map
abbrev pub map_row : (K V : RattleType) → KeyMembers K.Denot → RattleType
map_row K V g = the_row K V (record { text = g.text }) (record { cmp = g.cmp }) (record { eq = g.eq }) (record { partial_cmp = g.partial_cmp })

-- once the borrow r ends, the text has the last value written through r; at `None` the map stays as it is
abbrev pub lends_at : (K V : RattleType) → KeyMembers K.Denot → MutBor (map.FinMap text_cmp V.Denot) → List ℕ → Option (MutBor V.Denot) → Fml
lends_at K V g m key r = LendsSo (map_row K V g) V m r (λ n w. OnSome r (n ≡ map.insert m.now key w)) (λ n. n ≡ m.now)
