-- The rule of the revision word, and what a step tells.
use Rattle.std.specs.Prelude.{◌≡◌, ℕ, ◌+◌, ◌≤◌, true, false, max, [], ◌∷◌}
use mathlib.Core.Option.{some}
use lib.ListN.{get_elem?}
use Rattle.atomic_table.specs.Table.{State, Step, Me}
use Rattle.atomic_revision.specs.declared.observed.Observed.{Observed}

abbrev pub writer : ℕ → Observed
writer n = record { writes = true; live = true; number = n; loads = 0; told = 0 }

abbrev pub onlooker : Observed → Observed
onlooker v = record { writes = false; live = true; number = v.number; loads = 0; told = 0 }

abbrev pub spent : Observed
spent = record { writes = false; live = false; number = 0; loads = 0; told = 0 }

abbrev pub looked : Observed → ℕ → Observed
looked v n = record { writes = v.writes; live = v.live; number = n; loads = v.loads + 1; told = v.told }

abbrev pub raised : Observed → ℕ → Observed
raised v n = record { writes = v.writes; live = v.live; number = n; loads = v.loads; told = v.told }

abbrev pub told_of : Observed → Observed → Observed
told_of v w = record { writes = v.writes; live = v.live; number = v.number; loads = v.loads; told = max v.told w.number }

abbrev pub IsWriter : Observed → Type 0
IsWriter v = (v.writes ≡ true) × (v.live ≡ true)

abbrev pub Fits : ℕ → ℕ → ℕ → Observed → Type 0
Fits seat n id v = (v.writes ≡ true → (id ≡ seat) × (v.number ≡ n)) × (v.live ≡ true → (v.number ≤ n) × (v.told ≤ n))

-- the word is what the writer saw last, and no seat that isn't spent has seen more
abbrev pub Kept : State ℕ Observed → Type 0
Kept s = (seat : ℕ) × (n : ℕ) × (s.words ≡ n ∷ []) × ((id : ℕ) (v : Observed) → get_elem? s.views id ≡ some v → Fits seat n id v)

abbrev pub Looks : Step ℕ → Me ℕ Observed → ℕ → Me ℕ Observed → Type 0
Looks s me n now = (now ≡ (looked me.0 n, me.1)) × (me.0.live ≡ true → me.0.number ≤ n)

abbrev pub Raises : Step ℕ → Me ℕ Observed → ℕ → Me ℕ Observed → Type 0
Raises s me n now = now ≡ (raised me.0 n, me.1)

abbrev pub Checks : Step ℕ → Me ℕ Observed → ℕ → Me ℕ Observed → Type 0
Checks s me n now = (now ≡ me) × (IsWriter me.0 → me.0.told ≤ me.0.number)
