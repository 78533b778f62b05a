use Rattle.desk.proofs.Writable.{retrigger_writable}
use Rattle.desk.proofs.replies.server_cancelled.Goals as goal

pub returns-clause-writable : goal.returns-clause-writable
returns-clause-writable c = (tt, rw c.in_ok-extra.ensures retrigger_writable)
