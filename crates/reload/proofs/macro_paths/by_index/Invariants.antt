use Rattle.std.proofs.Common.{◌≡◌, ℕ, take}
use Rattle.std.specs.FinMap as by_key
use Rattle.std.specs.Ordering.{nat_cmp}
use Rattle.reload.specs.Graph.{found_in}
use Rattle.reload.proofs.macro_paths.by_index.Given as goal

-- what is found is the first among the entries so far
abbrev pub invariant-loop-entry : goal.invariant-loop-entry
invariant-loop-entry l = (index : ℕ) → found_in l.rows index ≡ by_key.find nat_cmp index (take l.entry-index l.built)
