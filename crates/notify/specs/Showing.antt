-- What a user is shown (LSP 3.17, ShowMessageRequestParams), and the state of the server.
use Rattle.std.specs.Prelude.{ℕ, Bool, List, [], ◌∷◌, codes, Option}
use Rattle.serde_json.specs.Data.{Data, boolean, number, unsigned, string, object, Members, no_members, put}
use Rattle.lsp_types.specs.Values.{put_some}
use Rattle.notify.specs.Objects.{with_text, list, optional_text}
use Rattle.notify.specs.declared.outgo.MessageKind.{MessageKind}
use Rattle.notify.specs.declared.outgo.MessageKind.TheVariants.{Error, Warning, Info}

abbrev pub type_of : MessageKind → ℕ
type_of Error = 1
type_of Warning = 2
type_of Info = 3

-- `{"message":M,"type":N}`
abbrev pub message_members : List ℕ → MessageKind → Members
message_members message kind =
    put (codes "type") (number (unsigned (type_of kind))) (put (codes "message") (string message) no_members)

-- the same with the button that opens the logs
abbrev pub asking_members : List ℕ → MessageKind → Members
asking_members message kind = put (codes "actions") (list (with_text (codes "title") (codes "Open server logs") ∷ [])) (message_members message kind)

-- `{"health":H,"message":M,"quiescent":B}`
abbrev pub status_params : List ℕ → Option (List ℕ) → Bool → Data
status_params health message quiescent =
    object (put (codes "quiescent") (boolean quiescent) (put_some (codes "message") (optional_text message)
    (put (codes "health") (string health) no_members)))
