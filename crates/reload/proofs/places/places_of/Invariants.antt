use Rattle.std.proofs.Common.{◌≡◌, ◌++◌, drop}
use Rattle.reload.specs.Graph.{places_from}
use Rattle.reload.proofs.places.places_of.Given as goal

abbrev pub invariant-loop-file : goal.invariant-loop-file
invariant-loop-file l =
    l.places ++ places_from l.next (drop l.file-index l.files) ≡ places_from 0 l.files
