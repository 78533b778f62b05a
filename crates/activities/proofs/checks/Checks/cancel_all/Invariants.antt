use Rattle.std.proofs.Common.{◌≡◌, ◌++◌, drop, map}
use Rattle.activities.specs.Checks.{cancel, all_cancelled}
use Rattle.activities.proofs.checks.Checks.cancel_all.Given as goal

abbrev pub invariant-loop-check : goal.invariant-loop-check
invariant-loop-check l = l.tellings ++ map cancel (drop l.check-index l.self.set) ≡ all_cancelled l.self
