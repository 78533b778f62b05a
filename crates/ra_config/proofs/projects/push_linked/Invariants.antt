use Rattle.std.proofs.Common.{◌≡◌, ◌++◌, drop}
use Rattle.ra_config.proofs.projects.push_linked.Given as goal

abbrev pub invariant-loop-project : goal.invariant-loop-project
invariant-loop-project l = l.projects ++ drop l.project-index l.linked ≡ l.initial.projects ++ l.linked
