-- The messages of a document: it is opened, edited at places that are drawn, and asked about.
use Rattle.std.specs.Prelude.{ℕ, zero, suc, pos, ◌+◌, List, [], ◌∷◌, ◌++◌, codes, decimal}
use Rattle.std.specs.List.{flat_map}
use Rattle.serde_json.specs.Data.{Data, null, number, unsigned, string, array, object, Members, no_members, put, no_items, item}
use Rattle.lsp_frame.specs.Written.{frame_for, body_of}
use Rattle.lsp_frame.specs.declared.message.Message.{Message}
use Rattle.lsp_frame.specs.declared.message.Message.TheVariants.{Request, Notification}
use Rattle.lsp_frame.specs.declared.message.RequestId.TheVariants.{Number}
use Rattle.lsp_types.specs.Values.{position_value, range_value}
use Rattle.text_core.specs.declared.position.Position.{Position}
use Rattle.text_core.specs.declared.position.Range.{Range}
use Rattle.message_generator.specs.Drafts.{first_draft, edited_times, edit_count, text_of, column_of, letter_of}
use Rattle.message_generator.specs.declared.draft.Draft.{Draft}

-- the URL of the document at a place
abbrev pub uri_of : ℕ → List ℕ
uri_of place = codes "file:///w/g" ++ (decimal place ++ codes ".rs")

-- a column of the first line, and the empty range there
abbrev pub column_at : ℕ → Position
column_at column = record { line = 0; character = column }

abbrev pub range_at : ℕ → Range
range_at column = record { start = column_at column; end = column_at column }

-- the document, and its version
abbrev pub named : ℕ → Members
named place = put (codes "uri") (string (uri_of place)) no_members

abbrev pub versioned : ℕ → ℕ → Members
versioned place version = put (codes "version") (number (unsigned version)) (named place)

abbrev pub opened_params : ℕ → List ℕ → Data
opened_params place text =
    object (put (codes "textDocument")
    (object (put (codes "text") (string text) (put (codes "languageId") (string (codes "rust")) (versioned place 1))))
    no_members)

-- one letter at a column
abbrev pub change_value : ℕ → ℕ → Data
change_value column letter =
    object (put (codes "text") (string (letter ∷ []))
    (put (codes "range") (range_value (range_at column)) no_members))

abbrev pub changed_params : ℕ → ℕ → ℕ → ℕ → Data
changed_params place version column letter =
    object (put (codes "contentChanges") (array (item (change_value column letter) no_items))
    (put (codes "textDocument") (object (versioned place version)) no_members))

-- the question is about the function's name
abbrev pub hovered_params : ℕ → Data
hovered_params place =
    object (put (codes "position") (position_value (column_at 3))
    (put (codes "textDocument") (object (named place)) no_members))

abbrev pub notifies : List ℕ → Data → Message
notifies method params = Notification (record { method = method; params = params })

abbrev pub opened : ℕ → Draft → Message
opened place draft = notifies (codes "textDocument/didOpen") (opened_params place (text_of draft))

-- the edit that comes next to a draft, and makes this version of it
abbrev pub changed : ℕ → ℕ → Draft → Message
changed place version draft =
    notifies (codes "textDocument/didChange") (changed_params place version (column_of draft) (letter_of draft))

-- the id of the question is the document's place
abbrev pub hovered : ℕ → Message
hovered place =
    Request (record { id = Number (pos place); method = codes "textDocument/hover"; params = hovered_params place })

abbrev pub exits : Message
exits = notifies (codes "exit") null

-- the first so many edits of a document; its versions go on from 2
unfoldable pub edits : ℕ → ℕ → Draft → List Message
edits zero place draft = []
edits (suc count) place draft = edits count place draft ++ changed place (count + 2) (edited_times count draft) ∷ []

-- all messages of a document
unfoldable pub document_messages : ℕ → ℕ → List Message
document_messages place state =
    let draft = first_draft place state in
    opened place draft ∷ (edits edit_count place draft ++ hovered place ∷ [])

-- the frames of messages
abbrev pub frames_of : List Message → List ℕ
frames_of messages = flat_map (λ message. frame_for (body_of message)) messages
