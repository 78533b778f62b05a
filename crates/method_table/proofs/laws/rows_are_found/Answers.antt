use Rattle.method_table.proofs.TableLaws.{own, some, none}
use Rattle.method_table.proofs.laws.rows_are_found.Goals as goal

pub returns : goal.returns
returns c = record { own = own; some = some; none = none }
