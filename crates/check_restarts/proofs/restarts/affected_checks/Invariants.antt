use Rattle.std.proofs.Common.{◌≡◌, ◌++◌, drop, filter}
use Rattle.check_restarts.specs.Among.{holds}
use Rattle.check_restarts.specs.Restarts.{is_affected}
use Rattle.check_restarts.proofs.restarts.affected_checks.Given as goal

abbrev pub invariant-loop-id : goal.invariant-loop-id
invariant-loop-id l =
    l.list ++ filter (is_affected (holds l.rows) l.workspaces l.place) (drop l.id-index l.checks)
    ≡ filter (is_affected (holds l.rows) l.workspaces l.place) l.checks
