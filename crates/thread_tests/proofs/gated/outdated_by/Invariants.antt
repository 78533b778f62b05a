use Rattle.std.proofs.Common.{◌≡◌, None}
use Rattle.session_port.specs.Runs.{HasCounted}
use Rattle.thread_tests.proofs.gated.outdated_by.Given as goal

abbrev pub invariant-loop : goal.invariant-loop
invariant-loop g l = record {
  usable : g.C.Cancel.held l.cancel ≡ None;
  counted : HasCounted (g.C.Cancel.polls l.fn.cancel) (g.C.Cancel.polls l.cancel);
  key : g.C.Cancel.key l.cancel ≡ g.C.Cancel.key l.fn.cancel;
  floor : g.C.Cancel.floor l.cancel ≡ g.C.Cancel.floor l.fn.cancel;
}
