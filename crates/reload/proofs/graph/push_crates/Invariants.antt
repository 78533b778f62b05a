use Rattle.std.proofs.Common.{◌≡◌, ◌++◌, drop}
use Rattle.std.specs.List.{enumerate_from, filter_map}
use Rattle.reload.specs.Graph.{crate_of, crates_in}
use Rattle.reload.proofs.graph.push_crates.Given as goal

abbrev pub invariant-loop-index : goal.invariant-loop-index
invariant-loop-index l =
    l.crates ++ filter_map (crate_of l.places) (enumerate_from l.index (drop l.index l.entries)) ≡ l.initial.crates ++ crates_in l.places l.entries
