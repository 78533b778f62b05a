use Rattle.op_board.specs.Board.{new_board}
use Rattle.op_board.proofs.NativeRuns.{continued}
use Rattle.op_board.proofs.laws.calls_continue_a_run.Goals as goal

pub returns : goal.returns
returns c = λ more run. continued more run new_board
