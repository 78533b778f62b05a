use Rattle.std.proofs.Common.{◌≡◌, ◌++◌, drop}
use Rattle.std.specs.List.{filter_map}
use Rattle.reload.specs.Graph.{number_of}
use Rattle.reload.proofs.graph.renumbered.Given as goal

abbrev pub invariant-loop-dep : goal.invariant-loop-dep
invariant-loop-dep l =
    l.list ++ filter_map (number_of l.places) (drop l.dep-index l.deps) ≡ filter_map (number_of l.places) l.deps
