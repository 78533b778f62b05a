-- What holds of a desk between turns.
use Rattle.std.specs.Prelude.{◌≡◌, ℕ, ◌+◌, ◌≤◌, length, Option, Some}
use Rattle.std.specs.FinMap as map
use Rattle.lsp_frame.specs.Pending.{AreDistinct, id_of}
use Rattle.lsp_frame.specs.declared.message.RequestId.{RequestId}
use Rattle.lsp_frame.specs.declared.message.Request.{Request}
use Rattle.session_port.specs.Jobs.{Jobs}
use Rattle.session_port.specs.Kinds.{ticket_of_job}
use Rattle.session_port.specs.Record.{with_jobs}
use Rattle.session_port.specs.declared.job.Job.{Job}
use Rattle.desk.specs.Desk.{Desk}
use Rattle.desk.specs.Folds.{AreHeld, AnswersOnce, pending_after, shutdown_after}
use Rattle.desk.specs.Reactions.{Reaction, responses_of}

-- the ids that wait are distinct, and turns that were have read them; the jobs out have numbers that were given; those
-- for requests are for ones that
-- turns have read, and have snapshots of no later revision; and each request that waits is held by them
pub record Sound (desk : Desk) (revision : ℕ) : Type 0 where
  pub distinct : AreDistinct desk.pending
  pub tickets : (ticket : ℕ) (id : RequestId) → id_of ticket desk.pending ≡ Some id → ticket ≤ desk.turns
  pub numbers : (n : ℕ) (job : Job) → map.get desk.jobs n ≡ Some job → n ≤ desk.last_job
  pub below : (n : ℕ) (job : Job) (ticket : ℕ) → map.get desk.jobs n ≡ Some job → ticket_of_job job.kind ≡ Some ticket
      → ticket ≤ desk.turns
  pub revisions : (n : ℕ) (job : Job) (ticket : ℕ) → map.get desk.jobs n ≡ Some job
      → ticket_of_job job.kind ≡ Some ticket
      → job.snapshot.revision ≤ revision
  pub held : AreHeld desk

-- the desk after the turn of this number, which read this request, if any, did this, and left these jobs of earlier
-- turns out
abbrev pub desk_then : ℕ → Option Request → Reaction → Jobs → Desk → Desk
desk_then turns request done jobs desk = record {
  turns = turns;
  pending = pending_after turns request (responses_of done) desk.pending;
  jobs = with_jobs done.jobs jobs;
  last_job = desk.last_job + length done.jobs;
  shutdown = shutdown_after request (responses_of done) desk.shutdown;
}

-- the turn keeps what holds, and each of its responses answers one request
pub record KeepsSound (turns : ℕ) (request : Option Request) (done : Reaction) (jobs : Jobs) (desk : Desk)
    (revision : ℕ) : Type 0 where
  pub sound : Sound (desk_then turns request done jobs desk) revision
  pub once : AnswersOnce turns request (responses_of done) desk.pending

-- exactly one job out is for the request with this ticket
pub record IsHeldByOne (ticket : ℕ) (jobs : Jobs) : Type 0 where
  pub number : ℕ
  pub job : Job
  pub is_out : map.get jobs number ≡ Some job
  pub holds : ticket_of_job job.kind ≡ Some ticket
  pub only : (other : ℕ) (holder : Job) → map.get jobs other ≡ Some holder → ticket_of_job holder.kind ≡ Some ticket
      → other ≡ number
