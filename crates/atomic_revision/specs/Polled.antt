-- What a poll of the word gives.
use Rattle.std.specs.Prelude.{◌≡◌, ◌<◌, ℕ, Bool, true, false, not, ◌&&◌, ltb, Option, None, Some, IfSome, refl, if◌then◌else◌}
use Rattle.std.proofs.lemmas.Bool.{ltb-true}

-- the number that was loaded, exactly where it is above the floor
abbrev pub polled : ℕ → ℕ → Option ℕ
polled floor number = if ltb floor number then Some number else None

-- a number that a poll gave is above the floor, and not above what the seat has seen
abbrev pub is_seen : ℕ → ℕ → Option ℕ → Bool
is_seen floor number None = true
is_seen floor number (Some saw) = ltb floor saw && not (ltb number saw)

first_true : (a b : Bool) → (a && b) ≡ true → a ≡ true
first_true true b h = refl
first_true false b h = h

-- so it is above the floor
pub seen_above : (floor number : ℕ) (seen : Option ℕ) → is_seen floor number seen ≡ true → IfSome seen (λ saw. floor < saw)
seen_above floor number None h = tt
seen_above floor number (Some saw) h = ltb-true floor saw (first_true (ltb floor saw) (not (ltb number saw)) h)
