use denote.Exit.{no}
use denote.Param.{param}
use denote.Param.Send.{arg_send, param_send, sendable}
use Rattle.std.proofs.Crossing as heap
use Rattle.task_pool.proofs.Sent.{leave_send, worker_send}
use Rattle.task_pool.proofs.worker.start.Goals as goal

pub spawn_with-requires-send-F : goal.spawn_with-requires-send-F
spawn_with-requires-send-F g c κs within =
    param_send _ _ (arg_send _ no _ (worker_send _ _ _ (leave_send (param 0 g.row.R))
    (heap.Arc-send (param 1 g.row.A) (search (c.type_bounds.send-A, sendable) depth 20 fits 20000) (search (c.type_bounds.sync-A, sendable) depth 20 fits 20000))))
