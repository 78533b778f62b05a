use Rattle.std.proofs.Common.{◌≡◌, take}
use Rattle.check_restarts.specs.Among.{as_map}
use Rattle.check_restarts.proofs.among.as_map.Given as goal

-- the rows are those of the roots so far
abbrev pub invariant-loop-root : goal.invariant-loop-root
invariant-loop-root l = l.rows ≡ as_map (take l.root-index l.roots)
