-- The texts of the documents: each begins as one line, and an edit puts a letter at a column that is drawn.
use Rattle.std.specs.Prelude.{ℕ, zero, suc, ◌+◌, ◌%◌, ◌≤◌, List, [], ◌∷◌, ◌++◌, codes, decimal, length, IsAscii}
use Rattle.std.specs.List.{insert_slice}
use Rattle.message_generator.specs.Draws.{next_state, drawn}
use Rattle.message_generator.specs.declared.draft.Draft.{Draft}

-- the line that a document begins with, without its end
abbrev pub first_line : ℕ → List ℕ
first_line place = codes "fn g" ++ (decimal place ++ codes "() {}")

-- a document before any edit, where this is the state of the draws
abbrev pub first_draft : ℕ → ℕ → Draft
first_draft place state = record { state = state; line = first_line place }

-- the column of the next edit, and its letter
unfoldable pub column_of : Draft → ℕ
column_of draft = drawn (next_state draft.state) % (length draft.line + 1)

unfoldable pub letter_of : Draft → ℕ
letter_of draft = 97 + drawn (next_state (next_state draft.state)) % 26

-- after one edit, for which two numbers are drawn
abbrev pub edited : Draft → Draft
edited draft = record {
  state = next_state (next_state draft.state);
  line = insert_slice draft.line (column_of draft) (letter_of draft ∷ []);
}

-- after so many edits
unfoldable pub edited_times : ℕ → Draft → Draft
edited_times zero draft = draft
edited_times (suc count) draft = edited (edited_times count draft)

-- each document is edited so often
abbrev pub edit_count : ℕ
edit_count = 10

abbrev pub last_draft : ℕ → ℕ → Draft
last_draft place state = edited_times edit_count (first_draft place state)

-- the whole text
abbrev pub text_of : Draft → List ℕ
text_of draft = draft.line ++ 10 ∷ []

-- the texts in the end, one after another, of so many documents from this place on
unfoldable pub texts_from : ℕ → ℕ → ℕ → List ℕ
texts_from zero place state = []
texts_from (suc left) place state =
    let last = last_draft place state in text_of last ++ texts_from left (place + 1) last.state

-- the texts of so many documents: the number is the state that the draws begin with
abbrev pub final_texts : ℕ → List ℕ
final_texts count = texts_from count 0 count

-- a line of ASCII, of at most so many bytes
pub record IsPlainLine (most : ℕ) (line : List ℕ) : Type 0 where
  pub ascii : IsAscii line
  pub short : length line ≤ most
