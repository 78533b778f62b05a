use Rattle.std.proofs.Common.{◌≡◌, ◌++◌, drop}
use Rattle.activities.specs.Checks.{checks_from}
use Rattle.activities.proofs.checks.checks_of.Given as goal

abbrev pub invariant-loop-place : goal.invariant-loop-place
invariant-loop-place l =
    l.checks ++ checks_from l.overridden l.place (drop l.place l.present) ≡ checks_from l.overridden 0 l.present
