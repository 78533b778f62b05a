use Rattle.std.proofs.Common.{◌≡◌, ◌++◌, drop, map}
use Rattle.check_restarts.specs.Restarts.{restart_at}
use Rattle.check_restarts.proofs.restarts.push_restarts.Given as goal

abbrev pub invariant-loop-id : goal.invariant-loop-id
invariant-loop-id l = l.list ++ map (restart_at l.saved) (drop l.id-index l.ids) ≡ l.initial.list ++ map (restart_at l.saved) l.ids
