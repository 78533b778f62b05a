use Rattle.std.proofs.Common.{◌≡◌, drop}
use Rattle.session_port.specs.Record.{after_order}
use Rattle.desk.proofs.state.put_jobs.Given as goal

abbrev pub invariant-loop-command : goal.invariant-loop-command
invariant-loop-command l = after_order (drop l.command-index l.commands) l.jobs ≡ after_order l.commands l.initial.jobs
