-- What the desk does: with a request that is read, one that is cancelled, and the messages of jobs.
use Rattle.std.specs.Prelude.{ℕ, ◌+◌, ◌&&◌, Bool, true, false, not, List, decimal, drop, Option, None, Some, Result, Ok}
use Rattle.std.specs.Prelude.{Err, if◌then◌else◌, ltb}
use Rattle.std.specs.FinMap as map
use Rattle.serde_json.specs.Data.{Data, null}
use Rattle.lsp_frame.specs.Pending.{is_pending, id_of, registered, closed}
use Rattle.lsp_frame.specs.declared.message.RequestId.{RequestId}
use Rattle.lsp_frame.specs.declared.message.Request.{Request}
use Rattle.lsp_frame.specs.declared.message.Response.{Response}
use Rattle.analysis_host.specs.SnapshotData.{SnapshotData}
use Rattle.analysis_host.specs.declared.ask.Ask.TheVariants.{Request as RequestAsk}
use Rattle.method_table.specs.Plans.{plan, is_shutdown}
use Rattle.method_table.specs.Rows.{row_of, class_of, retries, default_of}
use Rattle.method_table.specs.declared.class.PoolClass.{PoolClass}
use Rattle.method_table.specs.declared.planned.Plan.{Plan}
use Rattle.method_table.specs.declared.planned.Plan.TheVariants as plans
use Rattle.method_table.specs.declared.row_id.RowId.{RowId}
use Rattle.method_table.specs.StateRequests.{request_of}
use Rattle.method_table.specs.Unit.{is_unit}
use Rattle.method_table.specs.declared.request.StateRequest.{StateRequest}
use Rattle.dispatch.specs.Responses.{response_with}
use Rattle.session_port.specs.Jobs.{final_of, fitting_job}
use Rattle.session_port.specs.Kinds.{AskedFor, asked_for}
use Rattle.session_port.specs.Record.{after_order}
use Rattle.session_port.specs.declared.command.Command.TheVariants.{Spawn}
use Rattle.session_port.specs.declared.command.LogCode.TheVariants.{UnknownRequest, StrangeResult}
use Rattle.session_port.specs.declared.event.TaskMsg.{TaskMsg}
use Rattle.session_port.specs.declared.job.Job.{Job}
use Rattle.session_port.specs.declared.job.JobKind.{JobKind}
use Rattle.session_port.specs.declared.job.JobKind.TheVariants.{Request as RequestJob}
use Rattle.session_port.specs.declared.job.JobResult.{JobResult}
use Rattle.session_port.specs.TurnState.{TurnState, and_then, next_number, replied, ordered, logged}
use Rattle.session_port.specs.declared.fault.Counter.{Counter}
use Rattle.session_port.specs.declared.fault.Counter.TheVariants.{Turns, Jobs}
use Rattle.desk.specs.Desk.{Desk, waiting_for}
use Rattle.desk.specs.Meaning.{Meaning, can_read}
use Rattle.desk.specs.Replies.{already_pending, shut_already, unknown_request, invalid_params, canceled_by_client}
use Rattle.desk.specs.Replies.{outdated_reply, finding_reply, finished_reply}
use Rattle.desk.specs.Scene.{Scene}

-- ---- what is written

-- a pending request is answered, and so closed
unfoldable pub request_answered : RequestId → Response → TurnState Desk → TurnState Desk
request_answered id response w = replied response
    (record w { state = record w.state { pending = closed id w.state.pending } })

unfoldable pub answered_if : Option RequestId → (RequestId → Response) → TurnState Desk → TurnState Desk
answered_if None reply w = w
answered_if (Some id) reply w = request_answered id (reply id) w

-- the request of a ticket is answered, where it waits
unfoldable pub responded : ℕ → (RequestId → Response) → TurnState Desk → TurnState Desk
responded ticket reply w = answered_if (id_of ticket w.state.pending) reply w

-- ---- requests

-- the turn is counted
unfoldable pub counted : TurnState Desk → Result (TurnState Desk) Counter
counted w = and_then (next_number w.state.turns Turns) (λ n. Ok (record w { state = record w.state { turns = n } }))

-- the request waits for an answer, under the turn's number as its ticket
unfoldable pub noted : RequestId → TurnState Desk → TurnState Desk
noted id w = record w { state = record w.state { pending = registered w.state.turns id w.state.pending } }

-- a job of this kind is handed over on this snapshot, with the next number; it is out from the end of the turn on
abbrev pub handed_over : SnapshotData → PoolClass → JobKind → TurnState Desk → Result (TurnState Desk) Counter
handed_over snapshot class kind w = and_then (next_number w.state.last_job Jobs) (λ n.
    let job : Job = record { number = n; class = class; kind = kind; snapshot = snapshot } in
    Ok (ordered (Spawn job) (record w { state = record w.state { last_job = n } })))

-- a request's job on the present snapshot is handed over
unfoldable pub dispatched : Scene → PoolClass → ℕ → RowId → Data → TurnState Desk → Result (TurnState Desk) Counter
dispatched scene class ticket row params w = handed_over scene.snapshot class (RequestJob ticket row params) w

-- a request is answered by its own params, where they can be read
unfoldable pub echoed : Bool → ℕ → Data → TurnState Desk → TurnState Desk
echoed reads ticket params w = if reads then responded ticket (λ id. response_with id params) w
    else responded ticket invalid_params w

-- the same by a query on the present snapshot
unfoldable pub queried : Meaning → Scene → Bool → ℕ → RowId → Data → TurnState Desk → TurnState Desk
queried meaning scene reads ticket row params w =
    if reads then responded ticket (λ id. finding_reply id (meaning.answer scene.snapshot (RequestAsk row params))) w
    else responded ticket invalid_params w

-- the same by a job
unfoldable pub submitted : Scene → Bool → PoolClass → ℕ → RowId → Data → TurnState Desk → Result (TurnState Desk) Counter
submitted scene reads class ticket row params w =
    if reads then dispatched scene class ticket row params w else Ok (responded ticket invalid_params w)

-- a request to change the session's own state is answered by null; nothing else is done for it yet
unfoldable pub stated : ℕ → Option StateRequest → TurnState Desk → TurnState Desk
stated ticket None w = responded ticket invalid_params w
stated ticket (Some request) w = responded ticket (λ id. response_with id null) w

-- what is planned for a request of a row
unfoldable pub planned : Meaning → Scene → Plan → ℕ → RowId → Data → TurnState Desk → Result (TurnState Desk) Counter
planned meaning scene plans.Shutdown ticket row params w = Ok (stated ticket (request_of row params) w)
planned meaning scene plans.Refuse ticket row params w = Ok (responded ticket shut_already w)
planned meaning scene plans.Unknown ticket row params w = Ok (responded ticket unknown_request w)
planned meaning scene plans.Default ticket row params w =
    Ok (responded ticket (λ id. response_with id (default_of row)) w)
planned meaning scene plans.Identity ticket row params w = Ok (echoed (can_read meaning row params) ticket params w)
planned meaning scene plans.State ticket row params w = Ok (stated ticket (request_of row params) w)
planned meaning scene plans.OnLoop ticket row params w =
    Ok (queried meaning scene (can_read meaning row params) ticket row params w)
planned meaning scene (plans.Job class) ticket row params w =
    submitted scene (can_read meaning row params) class ticket row params w

-- a request of a row
unfoldable pub classed : Meaning → Scene → ℕ → RowId → Data → TurnState Desk → Result (TurnState Desk) Counter
classed meaning scene ticket row params w =
    planned meaning scene (plan (Some row) scene.loading scene.incomplete w.state.shutdown) ticket row params w

unfoldable pub unknown : ℕ → List ℕ → TurnState Desk → TurnState Desk
unknown ticket method w = logged UnknownRequest method (responded ticket unknown_request w)

-- a request that isn't `shutdown`
unfoldable pub asked : Meaning → Scene → Option RowId → List ℕ → Data → TurnState Desk → Result (TurnState Desk) Counter
asked meaning scene None method params w =
    if w.state.shutdown then Ok (responded w.state.turns shut_already w) else Ok (unknown w.state.turns method w)
asked meaning scene (Some row) method params w = classed meaning scene w.state.turns row params w

-- the request `shutdown`: from now on no other request is taken
unfoldable pub shut_down : Data → TurnState Desk → TurnState Desk
shut_down params w =
    if is_unit params then responded w.state.turns (λ id. response_with id null)
    (record w { state = record w.state { shutdown = true } })
    else responded w.state.turns invalid_params w

-- a request that waits now, under the turn's number
unfoldable pub request_admitted : Meaning → Scene → List ℕ → Data → TurnState Desk → Result (TurnState Desk) Counter
request_admitted meaning scene method params w =
    if is_shutdown (row_of method) then Ok (shut_down params w) else asked meaning scene (row_of method) method params w

unfoldable pub requested : Meaning → Scene → Request → TurnState Desk → Result (TurnState Desk) Counter
requested meaning scene r w =
    if is_pending r.id w.state.pending then Ok (replied (already_pending r.id) w)
    else request_admitted meaning scene r.method r.params (noted r.id w)

-- the request of an id is cancelled, where it is pending; its job stays out
unfoldable pub cancelled : RequestId → TurnState Desk → TurnState Desk
cancelled id w = if is_pending id w.state.pending then request_answered id (canceled_by_client id) w else w

-- ---- results

-- where the revision is above that of the job's snapshot, a row that isn't to be tried again is refused; else the
-- request is taken as one that is read now, under the ticket that it has
unfoldable pub outdated_for : Meaning → Scene → ℕ → Option AskedFor → TurnState Desk → Result (TurnState Desk) Counter
outdated_for meaning scene revision None w = Ok w
outdated_for meaning scene revision (Some r) w =
    if ltb revision scene.snapshot.revision && not (retries r.row)
    then Ok (responded r.ticket (outdated_reply (class_of r.row)) w)
    else classed meaning scene r.ticket r.row r.params w

abbrev pub outdated : Meaning → Scene → ℕ → JobKind → TurnState Desk → Result (TurnState Desk) Counter
outdated meaning scene revision kind w = outdated_for meaning scene revision (asked_for kind) w

unfoldable pub settled : Meaning → Scene → Option Response → RequestId → Job → TurnState Desk
    → Result (TurnState Desk) Counter
settled meaning scene (Some response) id job w = Ok (request_answered id response w)
settled meaning scene None id job w = outdated meaning scene job.snapshot.revision job.kind w

-- a job's result, where its request still waits
unfoldable pub delivered : Meaning → Scene → Option RequestId → Job → JobResult → TurnState Desk
    → Result (TurnState Desk) Counter
delivered meaning scene None job result w = Ok w
delivered meaning scene (Some id) job result w = settled meaning scene (finished_reply id result) id job w

-- what a message tells of a job that it fits: one that has ended is off the list, and its request gets the result; of
-- one that goes on nothing is done here
unfoldable pub brought : Meaning → Scene → Option JobResult → Job → ℕ → TurnState Desk → Result (TurnState Desk) Counter
brought meaning scene None job number w = Ok w
brought meaning scene (Some result) job number w =
    delivered meaning scene (waiting_for job w.state) job result
    (record w { state = record w.state { jobs = map.remove w.state.jobs number } })

-- a message that fits no job is logged
unfoldable pub job_ended : Meaning → Scene → Option Job → TaskMsg → TurnState Desk → Result (TurnState Desk) Counter
job_ended meaning scene None message w = Ok (logged StrangeResult (decimal message.job) w)
job_ended meaning scene (Some job) message w = brought meaning scene (final_of message.body) job message.job w

abbrev pub result_taken : Meaning → Scene → TaskMsg → TurnState Desk → Result (TurnState Desk) Counter
result_taken meaning scene message w = job_ended meaning scene (fitting_job message w.state.jobs) message w

-- ---- the end of a turn

-- the jobs that were handed over after so many commands are out
unfoldable pub jobs_kept : ℕ → TurnState Desk → TurnState Desk
jobs_kept before w = record w {
  state = record w.state { jobs = after_order (drop before w.out.commands) w.state.jobs };
}
