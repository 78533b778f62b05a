use Rattle.std.proofs.Common.{◌≡◌, ℕ, take}
use Rattle.check_restarts.specs.Among.{holds}
use Rattle.check_restarts.specs.Dependents.{is_in, is_at}
use Rattle.check_restarts.proofs.affected.numbers_among.Given as goal

abbrev pub invariant-loop-number : goal.invariant-loop-number
invariant-loop-number l = (n : ℕ) → is_in l.list n ≡ is_at (holds l.rows) (take l.number l.paths) n
