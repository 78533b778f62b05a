use Rattle.std.proofs.Common.{◌≡◌, drop}
use Rattle.session_port.specs.Record.{AreRising, after_order, last_number, spawned}
use Rattle.task_pool.proofs.crew.Crew.take.Given as goal

abbrev pub invariant-loop-command : goal.invariant-loop-command
invariant-loop-command g l = record {
  out : after_order (drop l.command-index l.commands) l.self.out ≡ after_order l.commands l.initial.self.out;
  last_job : last_number l.self.last_job (spawned (drop l.command-index l.commands)) ≡ last_number l.initial.self.last_job (spawned l.commands);
  rising : AreRising l.self.last_job (spawned (drop l.command-index l.commands));
  same : l.self ≡ record l.initial.self { out = l.self.out; last_job = l.self.last_job };
}
