use Rattle.std.proofs.Common.{rules}
use Rattle.task_pool.proofs.employed.dismiss.Goals as goal

pub returns-clause-end : goal.returns-clause-end
returns-clause-end g c =
    (c.in-Some.employed, search rules, record { is = c.collect-result.ensures.is; fits = c.collect-result.ensures.fits; saw = c.collect-result.ensures.saw })
