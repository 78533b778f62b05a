use Rattle.std.proofs.Common.{◌≡◌, ◌++◌, drop, map}
use Rattle.std.specs.List.{concat}
use Rattle.reload.specs.Errors.{line_of_build}
use Rattle.reload.proofs.errors.text_of_builds.Given as goal

abbrev pub invariant-loop-run : goal.invariant-loop-run
invariant-loop-run l =
    l.text ++ concat (map line_of_build (drop l.run-index l.last)) ≡ concat (map line_of_build l.last)
