use Rattle.std.proofs.Common.{◌≡◌, length}
use Rattle.host_fakes.specs.Script.{next_gift}
use Rattle.host_fakes.proofs.script.coming.Given as goal

abbrev pub invariant-steps : goal.invariant-steps
invariant-steps g l = next_gift l.out l.steps ≡ next_gift l.out l.fn.steps

abbrev pub decreases-steps : goal.decreases-steps
decreases-steps g l = length l.steps
