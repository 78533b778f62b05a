use Rattle.std.proofs.Common.{◌≡◌}
use Rattle.std.specs.Vec.Iter.{into_iter_items}
use Rattle.session_port.specs.Record.{AreRising, after_order, last_number, spawned}
use Rattle.inline_host.proofs.jobs_out.JobsOut.take.Given as goal

abbrev pub invariant-loop-command : goal.invariant-loop-command
invariant-loop-command l = record {
  rising : AreRising l.self.last_job (spawned (into_iter_items l.command-iterator));
  out : after_order (into_iter_items l.command-iterator) l.self.out ≡ after_order l.fn.commands l.fn.self.out;
  last_job : last_number l.self.last_job (spawned (into_iter_items l.command-iterator)) ≡ last_number l.fn.self.last_job (spawned l.fn.commands);
}
