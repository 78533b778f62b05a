-- What the lists of a turn leave of the desk, and what is promised of it: each response answers one request that waits,
-- and each request that waits
-- is held by exactly one job for each of its parts that is not reported.
use Rattle.std.specs.Prelude.{◌≡◌, ℕ, ◌+◌, ◌&&◌, List, [], ◌∷◌, length, Contains, Bool, true, false, Option, None, Some}
use Rattle.std.specs.Prelude.{is_some}
use Rattle.std.specs.Prelude.{if◌then◌else◌}
use Rattle.std.specs.FinMap as map
use Rattle.std.specs.List.{filter}
use Rattle.serde_json.specs.Data.{Data}
use Rattle.plain.specs.Reading.{is_null}
use Rattle.lsp_frame.specs.Pending.{Pending, id_of, is_pending, registered, closed}
use Rattle.lsp_frame.specs.declared.message.RequestId.{RequestId}
use Rattle.lsp_frame.specs.declared.message.Request.{Request}
use Rattle.lsp_frame.specs.declared.message.Response.{Response}
use Rattle.method_table.specs.Plans.{is_shutdown}
use Rattle.method_table.specs.Rows.{row_of}
use Rattle.session_port.specs.Jobs.{Jobs, jobs_after}
use Rattle.session_port.specs.Kinds.{slot_at, slot_of, ticket_of_job}
use Rattle.session_port.specs.declared.event.TaskMsg.{TaskMsg}
use Rattle.session_port.specs.declared.job.Job.{Job}
use Rattle.session_port.specs.declared.kinds.Slot.{Slot}
use Rattle.desk.specs.Desk.{Desk}
use Rattle.desk.specs.Reactions.{Reaction, responses_of}
use Rattle.desk.specs.Replies.{already_pending}
use Rattle.desk.specs.Slots.{unreported}

-- the jobs that are for a request
abbrev pub is_for_request : Job → Bool
is_for_request job = is_some (ticket_of_job job.kind)

abbrev pub asked_among : List Job → List Job
asked_among jobs = filter is_for_request jobs

-- ---- what is left

-- a response answers the pending request of its id, and closes it
abbrev pub closed_with : Option RequestId → Pending → Pending
closed_with None pending = pending
closed_with (Some id) pending = closed id pending

abbrev pub closed_by : List Response → Pending → Pending
closed_by [] pending = pending
closed_by (response ∷ responses) pending = closed_by responses (closed_with response.id pending)

-- the one response refuses the request whose id is pending, and closes nothing; else the request waits, and the
-- responses close
abbrev pub after_request : Bool → ℕ → RequestId → List Response → Pending → Pending
after_request true ticket id responses pending = pending
after_request false ticket id responses pending = closed_by responses (registered ticket id pending)

-- what waits after a turn that read this request, if any, under this ticket, and wrote these responses
abbrev pub pending_after : ℕ → Option Request → List Response → Pending → Pending
pending_after ticket None responses pending = closed_by responses pending
pending_after ticket (Some r) responses pending = after_request (is_pending r.id pending) ticket r.id responses pending

abbrev pub is_null_result : Option Data → Bool
is_null_result None = false
is_null_result (Some value) = is_null value

abbrev pub answers_null : List Response → Bool
answers_null [] = false
answers_null (response ∷ responses) = is_null_result response.result

-- a request `shutdown` was answered with null
abbrev pub shutdown_after : Option Request → List Response → Bool → Bool
shutdown_after None responses shutdown = shutdown
shutdown_after (Some r) responses shutdown = if is_shutdown (row_of r.method) && answers_null responses then true
    else shutdown

-- what a message of a job leaves for the next one of its batch: the jobs that it hands over are counted, and are out
-- from the end of the turn on
abbrev pub desk_past : TaskMsg → Reaction → Desk → Desk
desk_past message done desk = record desk {
  pending = closed_by (responses_of done) desk.pending;
  jobs = jobs_after message desk.jobs;
  last_job = desk.last_job + length done.jobs;
}

-- ---- what is promised

-- exactly one job out is for this slot
pub record HasOneJob (slot : Slot) (jobs : Jobs) : Type 0 where
  pub number : ℕ
  pub job : Job
  pub is_out : map.get jobs number ≡ Some job
  pub holds : slot_of job.kind ≡ Some slot
  pub only : (other : ℕ) (holder : Job) → map.get jobs other ≡ Some holder → slot_of holder.kind ≡ Some slot
      → other ≡ number

-- the request with this ticket, of which these parts are unreported, is held: there is such a part, exactly one job out
-- is for each of them, and no other job out is for the request
pub record IsHeld (ticket : ℕ) (parts : List ℕ) (jobs : Jobs) : Type 0 where
  pub part : ℕ
  pub is_left : Contains parts part
  pub each : (part : ℕ) → Contains parts part → HasOneJob (slot_at ticket part) jobs
  pub no_other : (number : ℕ) (job : Job) (part : ℕ) → map.get jobs number ≡ Some job
      → slot_of job.kind ≡ Some (slot_at ticket part) → Contains parts part

-- each pending request is held
abbrev pub AreHeld : Desk → Type 0
AreHeld desk =
    (ticket : ℕ) (id : RequestId) → id_of ticket desk.pending ≡ Some id
    → IsHeld ticket (unreported ticket desk) desk.jobs

-- each response answers the pending request of its id, and closes it
abbrev pub AreAnswers : List Response → Pending → Type 0
AreAnswers [] pending = Unit {0}
AreAnswers (response ∷ responses) pending =
    (id : RequestId) × (response.id ≡ Some id) × (is_pending id pending ≡ true)
    × AreAnswers responses (closed id pending)

-- a request whose id is pending already is refused at once, and nothing else is answered
abbrev pub AnswersRequest : Bool → ℕ → RequestId → List Response → Pending → Type 0
AnswersRequest true ticket id responses pending = responses ≡ already_pending id ∷ []
AnswersRequest false ticket id responses pending = AreAnswers responses (registered ticket id pending)

-- each response that a turn writes answers one request that was read and has no answer yet
abbrev pub AnswersOnce : ℕ → Option Request → List Response → Pending → Type 0
AnswersOnce ticket None responses pending = AreAnswers responses pending
AnswersOnce ticket (Some r) responses pending = AnswersRequest (is_pending r.id pending) ticket r.id responses pending
