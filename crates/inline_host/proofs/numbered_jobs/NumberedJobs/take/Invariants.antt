use Rattle.std.proofs.Common.{◌≡◌, drop}
use Rattle.session_port.specs.Record.{after_order, last_number, spawned}
use Rattle.inline_host.proofs.numbered_jobs.NumberedJobs.take.Given as goal

abbrev pub invariant-loop-command : goal.invariant-loop-command
invariant-loop-command l = record {
  out : after_order (drop l.command-index l.commands) l.self.out ≡ after_order l.commands l.fn.self.out;
  last_job : last_number l.self.last_job (spawned (drop l.command-index l.commands)) ≡ last_number l.fn.self.last_job (spawned l.commands);
}
