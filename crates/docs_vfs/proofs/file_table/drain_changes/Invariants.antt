use Rattle.std.proofs.Common.{◌≡◌, ◌++◌, length}
use Rattle.std.specs.List.{filter_map}
use Rattle.std.specs.FinMap as map
use Rattle.docs_vfs.specs.Files.{change_of}
use Rattle.docs_vfs.proofs.file_table.drain_changes.Given as goal

abbrev pub invariant-paths : goal.invariant-paths
invariant-paths l =
    l.list ++ filter_map (change_of l.rows) (map.entries l.before)
    ≡ l.initial.list ++ filter_map (change_of l.rows) (map.entries l.initial.before)

abbrev pub decreases-paths : goal.decreases-paths
decreases-paths l = length (map.entries l.before)
