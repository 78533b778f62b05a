use Rattle.std.proofs.Common.{◌≡◌, ◌++◌, drop}
use Rattle.reload.specs.Switch.{workspaces_fetched}
use Rattle.reload.proofs.switching.workspaces_fetched.Given as goal

abbrev pub invariant-loop-one : goal.invariant-loop-one
invariant-loop-one l =
    l.list ++ workspaces_fetched (drop l.one-index l.fetched) ≡ workspaces_fetched l.fetched
