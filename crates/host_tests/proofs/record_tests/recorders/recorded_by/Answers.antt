use Rattle.std.proofs.Common.{rules}
use Rattle.host_tests.proofs.record_tests.recorders.recorded_by.Goals as goal

pub returns-clause-ok : goal.returns-clause-ok
returns-clause-ok g c before calls b n =
    c.finish.ensures.ok g.B.Beginning.config g.B.Beginning.calls _ before calls (search rules) b n
