use Rattle.method_table.proofs.Units.{none-in}
use Rattle.method_table.proofs.unit.has_no_members.Goals as goal

pub returns : goal.returns
returns c = none-in c.is_empty.result c.args.members.now.entries c.is_empty.ensures.0 c.is_empty.ensures.1
