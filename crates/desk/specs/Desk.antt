-- The desk: the requests that wait for an answer, and the jobs that work on them.
use Rattle.std.specs.Prelude.{ℕ, Bool, false, option_and_then, Option}
use Rattle.std.specs.FinMap as map
use Rattle.lsp_frame.specs.Pending.{Pending, none_pending, id_of}
use Rattle.lsp_frame.specs.declared.message.RequestId.{RequestId}
use Rattle.session_port.specs.Jobs.{Jobs}
use Rattle.session_port.specs.Kinds.{ticket_of_job}
use Rattle.session_port.specs.declared.job.Job.{Job}

pub record Desk : Type 0 where
  -- how many turns were counted; a request's ticket is the number of the turn that read it
  pub turns : ℕ
  -- the requests that wait for an answer
  pub pending : Pending
  -- the jobs that were handed over and have not ended
  pub jobs : Jobs
  -- how many jobs were handed over
  pub last_job : ℕ
  -- `shutdown` was requested
  pub shutdown : Bool

-- the desk before any turn, where so many turns were counted and so many jobs handed over
abbrev pub new_desk_at : ℕ → ℕ → Desk
new_desk_at turns last_job = record {
  turns = turns;
  pending = none_pending;
  jobs = map.empty;
  last_job = last_job;
  shutdown = false;
}

abbrev pub new_desk : Desk
new_desk = new_desk_at 0 0

-- the request that a job is for, where it still waits
abbrev pub waiting_for : Job → Desk → Option RequestId
waiting_for job desk = option_and_then (λ ticket. id_of ticket desk.pending) (ticket_of_job job.kind)
