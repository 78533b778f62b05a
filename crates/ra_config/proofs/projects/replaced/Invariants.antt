use Rattle.std.proofs.Common.{◌≡◌, ◌++◌, drop, map}
use Rattle.ra_config.specs.Projects.{newer}
use Rattle.ra_config.proofs.projects.replaced.Given as goal

abbrev pub invariant-loop-old : goal.invariant-loop-old
invariant-loop-old l = l.made ++ map (newer l.new) (drop l.old-index l.list) ≡ map (newer l.new) l.list
