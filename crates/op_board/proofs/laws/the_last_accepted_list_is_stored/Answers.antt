use Rattle.op_board.proofs.NativeRuns.{stored_is}
use Rattle.op_board.proofs.laws.the_last_accepted_list_is_stored.Goals as goal

pub returns : goal.returns
returns c = λ run pass file. stored_is pass file run
