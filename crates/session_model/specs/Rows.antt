-- The reply table: what a turn is to do for requests, by its input and by what the lists say before it.
use Rattle.std.specs.Prelude.{◌≡◌, ℕ, ◌+◌, ◌-◌, List, [], ◌∷◌, Option, None, Some}
use Rattle.std.specs.Result.{result_unwrap_or}
use Rattle.lsp_frame.specs.declared.message.Message.TheVariants as lsp
use Rattle.lsp_frame.specs.declared.message.RequestId.{RequestId}
use Rattle.analysis_host.specs.SnapshotData.{SnapshotData}
use Rattle.session_port.specs.Record.{spawned}
use Rattle.session_port.specs.declared.event.TaskMsg.{TaskMsg}
use Rattle.session_port.specs.TurnState.{TurnState}
use Rattle.session_port.specs.Written.{responses_in}
use Rattle.desk.specs.Desk.{Desk}
use Rattle.desk.specs.Folds.{asked_among, desk_past}
use Rattle.desk.specs.Meaning.{Meaning}
use Rattle.desk.specs.Reactions.{Reaction, responses_of, silent, reactions_joined, cancel_row, message_row, request_row}
use Rattle.desk.specs.Scene.{Scene}
use Rattle.session_model.specs.Hearing.{heard_of, told_by}
use Rattle.session_model.specs.Inputs.{cancelled_by}
use Rattle.session_model.specs.Machine.{message_taken}
use Rattle.session_model.specs.Places.{Place, next_turn}
use Rattle.session_model.specs.Run.{Turn, turn_start}
use Rattle.session_model.specs.State.{State, snapshot_of}
use Rattle.session_model.specs.Sublists.{IsSublist}
use Rattle.session_model.specs.declared.input.Event.TheVariants.{Lsp, Task}
use Rattle.session_model.specs.declared.input.Input.{Input}
use Rattle.session_model.specs.declared.input.Input.TheVariants.{Next}

-- ---- within a turn

-- the machine in a turn that takes an event, before it does: the turn is counted
abbrev pub turn_begun : State → TurnState State
turn_begun s = turn_start (record s { desk = record s.desk { turns = s.desk.turns + 1 } })

-- the machine after a message of a batch; as before it, where the message needs one more of a counter than there are
abbrev pub machine_after : Meaning → TaskMsg → TurnState State → TurnState State
machine_after meaning message w = result_unwrap_or (message_taken meaning message w) w

-- after messages, one after another
abbrev pub machine_after_all : Meaning → List TaskMsg → TurnState State → TurnState State
machine_after_all meaning [] w = w
machine_after_all meaning (message ∷ messages) w = machine_after_all meaning messages (machine_after meaning message w)

-- within the next turn, behind these messages of its batch
abbrev pub machine_within : Meaning → List TaskMsg → Place → TurnState State
machine_within meaning earlier place = machine_after_all meaning earlier (turn_begun place.rest)

-- the revision rises within a turn as the machine's does
abbrev pub revision_within : Place → TurnState State → ℕ
revision_within place w = place.revision + (w.state.files.host.revision - place.rest.files.host.revision)

-- what a job works on that is handed over within a turn, where the machine has come to this: a batch changes no
-- documents
abbrev pub snapshot_within : Place → TurnState State → SnapshotData
snapshot_within place w = record (snapshot_of w.state) {
  versions = place.documents.versions;
  revision = revision_within place w;
}

-- what a request meets that is given to a job then, once more or for the first time
abbrev pub scene_within : Place → TurnState State → Scene
scene_within place w = record {
  snapshot = snapshot_within place w;
  loading = place.loading;
  incomplete = w.state.workspaces.incomplete;
}

-- what a job works on that is handed over at the beginning of a turn
abbrev pub snapshot_at : Place → SnapshotData
snapshot_at place = record (snapshot_of place.rest) {
  versions = place.documents.versions;
  revision = place.revision;
}

-- what a request meets that is read then
abbrev pub scene_at : Place → Scene
scene_at place = record {
  snapshot = snapshot_at place;
  loading = place.loading;
  incomplete = place.rest.workspaces.incomplete;
}

-- ---- the rows

-- what a turn does for requests: its responses are exactly these, and so are the jobs that it hands over for requests;
-- and these responses and reports stand among its messages, in order. (No test tells a report from other progress,
-- since a client chooses the tokens.)
pub record Does (turn : Turn) (done : Reaction) : Type 0 where
  pub responses : responses_in turn.messages ≡ responses_of done
  pub jobs : asked_among (spawned turn.commands) ≡ done.jobs
  pub in_order : IsSublist done.messages turn.messages

-- a notification: one that cancels a pending request answers it
abbrev pub notice_row : Option RequestId → Desk → Reaction
notice_row None desk = silent
notice_row (Some id) desk = cancel_row id desk

-- what a message of a batch leaves for the next one
abbrev pub place_after_message : TaskMsg → Reaction → Place → Place
place_after_message message done place = record place { desk = desk_past message done place.desk }

-- a batch: each message on what the machine makes of the ones before it
abbrev pub batch_row : Meaning → List TaskMsg → TurnState State → Place → Reaction
batch_row meaning [] w place = silent
batch_row meaning (message ∷ messages) w place =
    let done = message_row meaning (scene_within place w) place.desk message in
    reactions_joined done (batch_row meaning
    messages (machine_after meaning message w) (place_after_message message done place))

-- what a turn does, by its input and what the lists say before it: on the documents of all earlier inputs
abbrev pub turn_row : Meaning → Input → Place → Reaction
turn_row meaning (Next (Lsp (lsp.Request r))) place =
    request_row meaning (scene_at place) place.desk (next_turn place) r
turn_row meaning (Next (Lsp (lsp.Notification n))) place = notice_row (cancelled_by (told_by (heard_of n))) place.desk
turn_row meaning (Next (Task batch)) place = batch_row meaning batch (turn_begun place.rest) place
turn_row meaning other place = silent
