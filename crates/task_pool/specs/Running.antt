-- What runs, by the numbers of its jobs, beside the jobs out.
use Rattle.std.specs.Prelude.{◌≡◌, ◌≤◌, ℕ, Some}
use Rattle.std.specs.FinMap as map
use Rattle.std.specs.Ordering.{nat_cmp}

module _ {X J : Type 0} where
  -- what runs at a number is for the job that is out at it, and no number is above the last that was handed over
  abbrev pub AreRunning : (X → J) → (X → Type 0) → map.FinMap nat_cmp J → ℕ → map.FinMap nat_cmp X → Type 0
  AreRunning job P out last running =
      (number : ℕ) (x : X) → map.get running number ≡ Some x → (number ≤ last) × (map.get out number ≡ Some (job x)) × P x
