-- What a turn writes and orders.
use Rattle.std.specs.Prelude.{◌≡◌, ◌≤◌, ℕ, List, [], ◌∷◌, length, map, Option, None, Some}
use Rattle.std.specs.List.{flat_map, filter_map}
use Rattle.lsp_frame.specs.Frames.{frames_from, bodies_of}
use Rattle.lsp_frame.specs.Written.{frame_for, body_of, AreWritable}
use Rattle.lsp_frame.specs.Rules.{message_of}
use Rattle.lsp_frame.specs.declared.message.Message.{Message}
use Rattle.lsp_frame.specs.declared.message.Message.TheVariants.{Request as RequestMessage}
use Rattle.lsp_frame.specs.declared.message.Message.TheVariants.{Notification as NotificationMessage}
use Rattle.lsp_frame.specs.declared.message.Message.TheVariants.{Response as ResponseMessage}
use Rattle.lsp_frame.specs.declared.message.Response.{Response}
use Rattle.session_port.specs.declared.command.Command.{Command}

pub record Written : Type 0 where
  pub messages : List Message
  pub commands : List Command

abbrev pub nothing_done : Written
nothing_done = record { messages = []; commands = [] }

-- the response that a message is, if it is one
abbrev pub response_in : Message → Option Response
response_in (RequestMessage r) = None
response_in (NotificationMessage n) = None
response_in (ResponseMessage response) = Some response

-- the responses among messages
abbrev pub responses_in : List Message → List Response
responses_in messages = filter_map response_in messages

-- each message's values can be written
abbrev pub AllWritable : List Message → Type 0
AllWritable [] = Unit {0}
AllWritable (message ∷ messages) = AreWritable message × AllWritable messages

-- a message's body reads as that message
abbrev pub AreRead : List Message → Type 0
AreRead [] = Unit {0}
AreRead (message ∷ messages) = (message_of (body_of message) ≡ Some message) × AreRead messages

-- the frames of messages
abbrev pub frames_for : List Message → List ℕ
frames_for messages = flat_map (λ message. frame_for (body_of message)) messages

-- each body is within the limit that a reader sets
abbrev pub AreShort : List Message → Type 0
AreShort [] = Unit {0}
AreShort (message ∷ messages) = (length (body_of message) ≤ 67108864) × AreShort messages

-- the messages that a byte string holds
abbrev pub messages_in : List ℕ → List (Option Message)
messages_in bytes = map message_of (bodies_of (frames_from 0 bytes))
