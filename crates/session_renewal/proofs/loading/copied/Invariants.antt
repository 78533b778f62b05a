use Rattle.std.proofs.Common.{◌≡◌, ◌++◌, drop}
use Rattle.session_renewal.proofs.loading.copied.Given as goal

abbrev pub invariant-loop-name : goal.invariant-loop-name
invariant-loop-name l = l.copy ++ drop l.name-index l.lists ≡ l.lists
