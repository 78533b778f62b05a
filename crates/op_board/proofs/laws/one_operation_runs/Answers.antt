use Rattle.op_board.proofs.QueueLaws.{one_runs, waits, last_is}
use Rattle.op_board.proofs.laws.one_operation_runs.Goals as goal

pub returns : goal.returns
returns g c = record { one = λ run lawful. one_runs run lawful; waiting = λ run request. waits run request; last = λ run. last_is run }
