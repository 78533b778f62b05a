use Rattle.std.proofs.Common.{rules}
use Rattle.task_pool.proofs.employed.hire.Goals as goal

pub returns-clause-ok : goal.returns-clause-ok
returns-clause-ok g c = (c.in_ok-employed.employed, search rules, search rules)
