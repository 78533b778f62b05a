-- What a worker's thread takes along may go there.
use denote.Param.Send.{IsSend, sendable}
use denote.Param.SendFields.{as_row_send, declared_send}
use denote.RattleType.{RattleType}
use denote.Struct.Field.{row_field}
use denote.Struct.Tuple.{TupleAt, type_at}
use mathlib.Core.List.{[], ◌∷◌}
use mir.Syntax.{Sym}
use Rattle.std.proofs.Crossing as heap
use Rattle.std.specs.contracts.alloc.Global as Global
use Rattle.send_sync.proofs.Sent.{job_send}
use Rattle.inbox.proofs.ends.WorkerEnd.TheSendSync as WorkerEnd
use Rattle.inbox.proofs.refusal.Refusal.TheSendSync as Refusal
use Rattle.inbox.specs.contracts.ends.WorkerEnd as End
use Rattle.inbox.specs.contracts.refusal.Refusal as Refuses
use Rattle.atomic_revision.proofs.revision_cancel.RevisionCancel.TheSendSync as RevisionCancel
use Rattle.atomic_revision.specs.contracts.revision_cancel.RevisionCancel as Cancel
use Rattle.session_port.specs.contracts.job.Job as Job
use Rattle.task_pool.specs.contracts.leave.Leave as Leave

pub leave_send : (R : RattleType) → IsSend (Leave.the_row R)
leave_send R = declared_send (Leave.the_type R) (search sendable depth 20 fits 20000)

pub worker_send : (name : Sym) (leave analysis : RattleType) → IsSend leave → IsSend analysis
    → IsSend (TupleAt name (leave ∷ Global.the_row ∷ analysis ∷ Job.the_row ∷ Cancel.the_row ∷ End.the_row ∷ Refuses.the_row ∷ []))
worker_send name leave analysis leaves asks =
    declared_send (type_at name (leave ∷ Global.the_row ∷ analysis ∷ Job.the_row ∷ Cancel.the_row ∷ End.the_row ∷ Refuses.the_row ∷ []))
    (as_row_send (row_field leave) leaves, (heap.send, (as_row_send (row_field analysis) asks, (job_send, (RevisionCancel.the_send, (WorkerEnd.the_send, (Refusal.the_send, tt)))))))
