use Rattle.std.proofs.Common.{◌≡◌, ◌++◌, drop}
use Rattle.small_analysis.specs.Roots.{existing_roots}
use Rattle.small_analysis.proofs.roots.existing_roots.Given as goal

-- what was found so far, and then what is left
abbrev pub invariant-loop-info : goal.invariant-loop-info
invariant-loop-info l = l.paths ++ existing_roots l.snapshot (drop l.info-index l.crates) ≡ existing_roots l.snapshot l.crates
