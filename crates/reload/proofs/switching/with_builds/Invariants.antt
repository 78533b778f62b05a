use Rattle.std.proofs.Common.{◌≡◌, ◌++◌, drop}
use Rattle.reload.specs.Switch.{with_builds}
use Rattle.reload.proofs.switching.with_builds.Given as goal

abbrev pub invariant-loop-run : goal.invariant-loop-run
invariant-loop-run l = l.list ++ with_builds (drop l.run-index l.runs) l.rest ≡ with_builds l.runs l.workspaces
