use Rattle.std.proofs.Common.{◌≡◌, ◌++◌, drop, map}
use Rattle.workspaces.specs.Loads.{found_in, numbered}
use Rattle.workspaces.proofs.macros.told_each.Given as goal

abbrev pub invariant-loop-number : goal.invariant-loop-number
invariant-loop-number l =
    l.macros ++ map (numbered (found_in l.rows)) (drop l.number-index l.listed) ≡ map (numbered (found_in l.rows)) l.listed
