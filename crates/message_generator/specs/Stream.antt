-- The messages and the bytes of a client with many documents, one document after another.
use Rattle.std.specs.Prelude.{◌≡◌, ◌≤◌, ◌<◌, ℕ, zero, suc, ◌+◌, Bool, true, false, List, [], ◌∷◌, ◌++◌, codes, length}
use Rattle.std.specs.Prelude.{bytes_eq, Option, Some, None, if◌then◌else◌}
use Rattle.lsp_frame.specs.Header.{size_limit}
use Rattle.lsp_frame.specs.Rules.{message_of}
use Rattle.lsp_frame.specs.Written.{body_of}
use Rattle.lsp_frame.specs.declared.message.Message.TheVariants.{Notification, Request, Response}
use Rattle.lsp_frame.specs.declared.message.Message.{Message}
use Rattle.message_generator.specs.Drafts.{last_draft}
use Rattle.message_generator.specs.Messages.{document_messages, exits, frames_of}
use Rattle.message_generator.specs.declared.generator.Generator.{Generator}

-- the messages of so many documents from this place on, and then `exit`
unfoldable pub messages_from : ℕ → ℕ → ℕ → List Message
messages_from zero place state = exits ∷ []
messages_from (suc left) place state =
    document_messages place state ++ messages_from left (place + 1) (last_draft place state).state

-- all messages of so many documents: the number is the state that the draws begin with
abbrev pub messages_of : ℕ → List Message
messages_of count = messages_from count 0 count

-- their bytes
abbrev pub stream_of : ℕ → List ℕ
stream_of count = frames_of (messages_of count)

-- a message whose body reads as it, and is within the limit that a reader sets
pub record IsReadable (message : Message) : Type 0 where
  pub read : message_of (body_of message) ≡ Some message
  pub short : length (body_of message) ≤ size_limit

abbrev pub AreReadable : List Message → Type 0
AreReadable [] = Unit {0}
AreReadable (message ∷ messages) = IsReadable message × AreReadable messages

-- how many requests there are among messages
abbrev pub request_count : List Message → ℕ
request_count [] = 0
request_count (Request r ∷ messages) = request_count messages + 1
request_count (Notification n ∷ messages) = request_count messages
request_count (Response r ∷ messages) = request_count messages

abbrev pub is_exit : Message → Bool
is_exit (Request r) = false
is_exit (Notification n) = bytes_eq n.method (codes "exit")
is_exit (Response r) = false

-- the last one is an `exit`, and no other
abbrev pub EndByExit : List Message → Type 0
EndByExit [] = ⊥
EndByExit (message ∷ []) = is_exit message ≡ true
EndByExit (message ∷ other ∷ messages) = (is_exit message ≡ false) × EndByExit (other ∷ messages)

-- the bytes that a generator has left
abbrev pub bytes_left : Generator → List ℕ
bytes_left g = if g.ended then [] else frames_of (messages_from g.left g.place g.state)

-- these bytes come first, or there are none
abbrev pub Gives : List ℕ → List ℕ → Option (List ℕ) → Type 0
Gives old new None = (old ≡ []) × (new ≡ [])
Gives old new (Some piece) = (0 < length piece) × (old ≡ piece ++ new)
