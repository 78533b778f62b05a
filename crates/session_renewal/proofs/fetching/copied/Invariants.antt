use Rattle.std.proofs.Common.{◌≡◌, ◌++◌, drop}
use Rattle.session_renewal.proofs.fetching.copied.Given as goal

abbrev pub invariant-loop-path : goal.invariant-loop-path
invariant-loop-path l = l.copy ++ drop l.path-index l.paths ≡ l.paths
