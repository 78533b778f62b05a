use Rattle.std.proofs.Common.{◌≡◌, ◌-◌, ◌++◌}
use Rattle.std.specs.Vec.Iter.{into_iter_items}
use Rattle.workspaces.specs.Builds.{one_each}
use Rattle.workspaces.proofs.runs.one_each.Given as goal

-- what is made so far, and what is still to be made of the rest
abbrev pub invariant-loop : goal.invariant-loop
invariant-loop l = l.list ++ one_each l.error (l.count - l.counter) (into_iter_items l.given) ≡ one_each l.error l.count l.fn.runs
