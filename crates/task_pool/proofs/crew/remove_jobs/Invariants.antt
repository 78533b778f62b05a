use Rattle.std.proofs.Common.{◌≡◌, drop}
use Rattle.task_pool.specs.Crews.{without_jobs}
use Rattle.task_pool.proofs.crew.remove_jobs.Given as goal

abbrev pub invariant-loop-message : goal.invariant-loop-message
invariant-loop-message l = without_jobs (drop l.message-index l.messages) l.running ≡ without_jobs l.messages l.fn.running
