use Rattle.std.proofs.Common.{◌≡◌, drop}
use Rattle.reload.specs.Switch.{workspaces_fetched, are_same}
use Rattle.reload.proofs.switching.are_same.Given as goal

-- the lists are the same exactly where what is left is
abbrev pub invariant-loop-one : goal.invariant-loop-one
invariant-loop-one l = are_same (workspaces_fetched (drop l.one-index l.fetched)) l.rest ≡ are_same (workspaces_fetched l.fetched) l.present
