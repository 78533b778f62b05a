use Rattle.std.proofs.Common.{◌≡◌, ◌++◌, drop}
use Rattle.std.specs.List.{enumerate_from, filter_map}
use Rattle.reload.specs.Graph.{found_in, path_of}
use Rattle.reload.proofs.macro_paths.paths_by.Given as goal

abbrev pub invariant-loop-index : goal.invariant-loop-index
invariant-loop-index l =
    l.paths ++ filter_map (path_of (found_in l.rows) l.places) (enumerate_from l.index (drop l.index l.entries))
    ≡ filter_map (path_of (found_in l.rows) l.places) (enumerate_from 0 l.entries)
