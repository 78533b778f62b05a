use Rattle.std.proofs.Common.{◌≡◌, ◌++◌, drop, map}
use Rattle.activities.specs.Checks.{restart, all_restarted}
use Rattle.activities.proofs.checks.Checks.restart_all.Given as goal

abbrev pub invariant-loop-check : goal.invariant-loop-check
invariant-loop-check l = l.tellings ++ map restart (drop l.check-index l.self.set) ≡ all_restarted l.self
