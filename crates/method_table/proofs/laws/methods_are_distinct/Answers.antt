use Rattle.method_table.proofs.TableLaws.{distinct, in_order}
use Rattle.method_table.proofs.laws.methods_are_distinct.Goals as goal

pub returns : goal.returns
returns c = record { distinct = distinct; numbered = in_order }
