-- What is done with a request of the session's own, with an answer to one, and with folders that the client adds and
-- removes.
use Rattle.std.specs.Prelude.{ℕ, ◌==◌, pos, Bool, List, ◌++◌, map, filter, if◌then◌else◌, Option, None, Some, Result}
use Rattle.std.specs.Prelude.{Ok, Err, is_err}
use Rattle.docs_vfs.specs.FileUrls.{path_of}
use Rattle.lsp_frame.specs.declared.message.RequestId.TheVariants.{Number}
use Rattle.lsp_frame.specs.declared.message.Message.{Message}
use Rattle.lsp_frame.specs.declared.message.Message.TheVariants.{Request as RequestMessage}
use Rattle.lsp_frame.specs.declared.message.Message.TheVariants.{Notification as NotificationMessage}
use Rattle.lsp_frame.specs.declared.message.Response.{Response}
use Rattle.session_port.specs.declared.command.Command.{Command}
use Rattle.session_port.specs.declared.command.Command.TheVariants.{Log}
use Rattle.session_port.specs.declared.command.LogCode.{LogCode}
use Rattle.session_port.specs.declared.command.LogCode.TheVariants.{UnknownResponse, SettingsError, BadPath}
use Rattle.session_port.specs.TurnState.{TurnState, written, logged}
use Rattle.session_port.specs.declared.fault.Counter.{Counter}
use Rattle.session_port.specs.declared.fault.Counter.TheVariants.{Outgoing as OutgoingNumbers}
use Rattle.notify.specs.Writing.{outgo_body}
use Rattle.notify.specs.declared.outgo.Outgo.{Outgo}
use Rattle.notify.specs.declared.outgo.Outgo.TheVariants.{OpenLogs as OpenLogsMessage}
use Rattle.lsp_frame.specs.Outgoing.{number_limit}
use Rattle.client.specs.Answers.{fault_in, chooses}
use Rattle.client.specs.Client.{Client}
use Rattle.client.specs.Folds.{after_asking, after_answer, after_folders, follows}
use Rattle.client.specs.Texts.{id_text}
use Rattle.client.specs.declared.handler.ReqHandler.{ReqHandler}
use Rattle.client.specs.declared.handler.ReqHandler.TheVariants.{Ignore, Settings, OpenLogs}

-- ---- requests of the session's own

-- a message as a request with this number
abbrev pub request_at : ℕ → Outgo → Message
request_at number message = RequestMessage
    (record { id = Number (pos number); method = (outgo_body message).0; params = (outgo_body message).1 })

-- a message as a notification
abbrev pub notification_of : Outgo → Message
notification_of message = NotificationMessage
    (record { method = (outgo_body message).0; params = (outgo_body message).1 })

-- a request is written with the next number, and waits, unless all numbers were given
unfoldable pub asked_for : Outgo → ReqHandler → TurnState Client → Result (TurnState Client) Counter
asked_for message handler w =
    if w.state.asked.given == number_limit then Err OutgoingNumbers
    else Ok (written (request_at w.state.asked.given message) (record w { state = after_asking handler w.state }))

-- ---- answers

abbrev pub logged_if : {S : Type 0} → LogCode → Option (List ℕ) → TurnState S → TurnState S
logged_if code None w = w
logged_if code (Some text) w = logged code text w

-- what is written and logged for an answer, by what is to follow it
unfoldable pub followed : Option ReqHandler → Response → TurnState Client → TurnState Client
followed None response w = logged UnknownResponse (id_text response.id) w
followed (Some Ignore) response w = w
followed (Some Settings) response w = logged_if SettingsError (fault_in response) w
followed (Some OpenLogs) response w = if chooses response then written (notification_of OpenLogsMessage) w else w

unfoldable pub answered : Response → TurnState Client → TurnState Client
answered response w = record (followed (follows response.id w.state.asked) response w)
    { state = after_answer response w.state }

-- ---- folders

abbrev pub names_none : List ℕ → Bool
names_none url = is_err (path_of url)

-- a log line for each URL that names no path
abbrev pub misses : List (List ℕ) → List Command
misses urls = map (Log BadPath) (filter names_none urls)

-- the removed ones are logged first
unfoldable pub folders_changed : List (List ℕ) → List (List ℕ) → TurnState Client → TurnState Client
folders_changed added removed w = record {
  state = after_folders added removed w.state;
  out = record w.out { commands = w.out.commands ++ misses removed ++ misses added };
}
