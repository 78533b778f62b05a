use Rattle.dispatch.proofs.Writable.{value_writable}
use Rattle.dispatch.proofs.responding.response_with.Goals as goal

pub returns-clause-writable : goal.returns-clause-writable
returns-clause-writable c = value_writable c.args.id c.args.value c.requires
