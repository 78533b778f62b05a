use Rattle.std.proofs.Common.{◌≡◌, drop}
use Rattle.task_pool.specs.Revising.{after_revisions}
use Rattle.task_pool.proofs.crew.revise.Given as goal

abbrev pub invariant-loop-command : goal.invariant-loop-command
invariant-loop-command l = (after_revisions (drop l.command-index l.commands) l.word.number ≡ after_revisions l.commands l.fn.word.number) × (l.word.word ≡ l.fn.word.word)
