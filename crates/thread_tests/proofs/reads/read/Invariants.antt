use Rattle.std.proofs.Common.{◌≡◌, false}
use Rattle.thread_tests.proofs.reads.read.Given as goal

abbrev pub invariant-loop : goal.invariant-loop
invariant-loop g l = record {
  usable : l.host.poisoned ≡ false;
}
