-- Runs of a queue of one operation: what its calls did, one act after another. A run has its last act first.
use Rattle.std.specs.Prelude.{◌≡◌, ℕ, ◌+◌, true, false, List, [], ◌∷◌, ◌++◌, Option, None, Some, cond, option_to_list}
use Rattle.op_board.specs.Queue.{Queue, new_queue, starts, after_start}

pub data QueueAct (A O : Type 0) : Type 0 where
  -- an operation is asked for
  Requests : List ℕ × A → QueueAct A O
  -- the request that waits is to start, unless an operation is in progress
  Starts : QueueAct A O
  -- the operation in progress ends
  Ends : O → QueueAct A O

-- what an act does to the queue
abbrev pub queue_step : {A O : Type 0} → QueueAct A O → Queue A O → Queue A O
queue_step (Requests request) q = record q { waiting = Some request }
queue_step Starts q = after_start q
queue_step (Ends output) q = record { waiting = q.waiting; in_progress = false; last = Some output }

abbrev pub queue_after : {A O : Type 0} → List (QueueAct A O) → Queue A O
queue_after [] = new_queue
queue_after (act ∷ before) = queue_step act (queue_after before)

-- an operation ends only where one is in progress
abbrev pub IsQueueRun : {A O : Type 0} → List (QueueAct A O) → Type 0
IsQueueRun [] = Unit {0}
IsQueueRun (Ends output ∷ before) = ((queue_after before).in_progress ≡ true) × IsQueueRun before
IsQueueRun (act ∷ before) = IsQueueRun before

-- the requests that were handed out to start
abbrev pub handed_out : {A O : Type 0} → List (QueueAct A O) → List (List ℕ × A)
handed_out [] = []
handed_out (Starts ∷ before) = option_to_list (starts (queue_after before)) ++ handed_out before
handed_out (act ∷ before) = handed_out before

-- how many operations ended
abbrev pub ended : {A O : Type 0} → List (QueueAct A O) → ℕ
ended [] = 0
ended (Ends output ∷ before) = ended before + 1
ended (act ∷ before) = ended before

-- what the last operation that ended came to
abbrev pub last_output : {A O : Type 0} → List (QueueAct A O) → Option O
last_output [] = None
last_output (Ends output ∷ before) = Some output
last_output (act ∷ before) = last_output before

-- how many operations are in progress: none or one
abbrev pub running : {A O : Type 0} → Queue A O → ℕ
running q = cond q.in_progress 1 0

abbrev pub HasNoRequest : {A O : Type 0} → List (QueueAct A O) → Type 0
HasNoRequest [] = Unit {0}
HasNoRequest (Requests request ∷ before) = ⊥
HasNoRequest (act ∷ before) = HasNoRequest before

-- the request is the last of the run, and none was handed out since it came
pub record IsLastRequest {A O : Type 0} (request : List ℕ × A) (run : List (QueueAct A O)) : Type 0 where
  pub since : List (QueueAct A O)
  pub before : List (QueueAct A O)
  pub split : run ≡ since ++ Requests request ∷ before
  pub last : HasNoRequest since
  pub kept : handed_out run ≡ handed_out before
