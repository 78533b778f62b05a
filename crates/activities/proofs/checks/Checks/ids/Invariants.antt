use Rattle.std.proofs.Common.{◌≡◌, ℕ, List, ◌++◌, drop, map}
use Rattle.activities.specs.Checks.{ids_of}
use Rattle.activities.proofs.checks.Checks.ids.Given as goal

abbrev pub invariant-loop-check : goal.invariant-loop-check
invariant-loop-check l =
    l.ids ++ map (λ (check : ℕ × List ℕ). check.0) (drop l.check-index l.self.set) ≡ ids_of l.self
