use Rattle.op_board.proofs.Takes.{lists_changes}
use Rattle.op_board.proofs.laws.changed_files_are_marked.Goals as goal

pub returns : goal.returns
returns c = λ run. lists_changes run
