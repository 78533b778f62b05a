use Rattle.std.proofs.Common.{◌≡◌, false}
use Rattle.host_tests.proofs.record_tests.recorders.take_events.Given as goal

abbrev pub invariant-loop : goal.invariant-loop
invariant-loop g l = record {
  usable : g.H.Host.poisoned l.host ≡ false;
  same : g.H.Host.origin l.host ≡ g.H.Host.origin l.fn.host;
}
