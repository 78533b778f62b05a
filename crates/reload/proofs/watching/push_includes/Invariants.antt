use Rattle.std.proofs.Common.{◌≡◌, ◌++◌, drop}
use Rattle.reload.specs.Watchers.{below_includes}
use Rattle.reload.proofs.watching.push_includes.Given as goal

abbrev pub invariant-loop-include : goal.invariant-loop-include
invariant-loop-include l =
    l.list ++ below_includes l.relative (drop l.include-index l.includes) ≡ l.initial.list ++ below_includes l.relative l.includes
