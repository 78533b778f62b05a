use Rattle.std.proofs.Common.{◌≡◌, ◌++◌, drop}
use Rattle.std.proofs.Common.{map as each}
use Rattle.analysis_host.proofs.path_map.paths_of.Given as goal

abbrev pub invariant-loop-entry : goal.invariant-loop-entry
invariant-loop-entry g l = l.paths ++ each (λ entry. entry.now.0) (drop l.entry-index l.entries) ≡ each (λ entry. entry.now.0) l.entries
