use Rattle.std.proofs.Common.{◌≡◌, drop}
use Rattle.session_port.specs.Jobs.{after_batch}
use Rattle.inline_host.proofs.numbered_jobs.end_jobs.Given as goal

abbrev pub invariant-loop-message : goal.invariant-loop-message
invariant-loop-message l = after_batch (drop l.message-index l.batch) l.out ≡ after_batch l.batch l.fn.out
