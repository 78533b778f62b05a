use Rattle.std.proofs.Common.{◌≡◌, replicate}
use Rattle.small_project.specs.Builds.{no_scripts}
use Rattle.small_project.proofs.answers.scripts_of.Given as goal

abbrev pub invariant-loop : goal.invariant-loop
invariant-loop l = l.scripts ≡ replicate l.counter no_scripts
