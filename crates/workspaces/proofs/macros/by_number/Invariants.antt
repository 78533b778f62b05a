use Rattle.std.proofs.Common.{◌≡◌, ℕ, take}
use Rattle.workspaces.specs.Loads.{found_in, first_told}
use Rattle.workspaces.proofs.macros.by_number.Given as goal

-- what is found is the first among the entries so far
abbrev pub invariant-loop-entry : goal.invariant-loop-entry
invariant-loop-entry l = (number : ℕ) → found_in l.rows number ≡ first_told (take l.entry-index l.entries) number
