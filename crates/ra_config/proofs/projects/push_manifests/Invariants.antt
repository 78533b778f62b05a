use Rattle.std.proofs.Common.{◌≡◌, ◌++◌, drop, map}
use Rattle.ra_config.specs.Projects.{manifest}
use Rattle.ra_config.proofs.projects.push_manifests.Given as goal

abbrev pub invariant-loop-root : goal.invariant-loop-root
invariant-loop-root l = l.projects ++ map manifest (drop l.root-index l.roots) ≡ l.initial.projects ++ map manifest l.roots
