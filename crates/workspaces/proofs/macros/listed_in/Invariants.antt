use Rattle.std.proofs.Common.{◌≡◌, ◌++◌, drop}
use Rattle.workspaces.specs.Loads.{listed_in}
use Rattle.workspaces.proofs.macros.listed_in.Given as goal

abbrev pub invariant-loop-paths : goal.invariant-loop-paths
invariant-loop-paths l = l.listed ++ listed_in (drop l.paths-index l.lists) ≡ listed_in l.lists
