use Rattle.std.proofs.Common.{◌≡◌, ◌++◌, drop, map}
use Rattle.ra_config.specs.Projects.{as_project}
use Rattle.ra_config.proofs.projects.push_discovered.Given as goal

abbrev pub invariant-loop-discovered : goal.invariant-loop-discovered
invariant-loop-discovered l = l.projects ++ map as_project (drop l.discovered-index l.list) ≡ l.initial.projects ++ map as_project l.list
