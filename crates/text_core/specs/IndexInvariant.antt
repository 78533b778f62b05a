-- What is known of lines in an index that is kept over edits.
use Rattle.std.specs.Prelude.{◌≡◌, ℕ, ◌≤◌, false, List, [], length, string_bytes, Option, None}
use Rattle.text_core.specs.Rebuilds.{Progress}
use Rattle.text_core.specs.Splices.{Fall, AreBehind, spliced}
use Rattle.text_core.specs.Starts.{line_starts}
use Rattle.text_core.specs.declared.draft.Draft.{Draft}
use Rattle.text_core.specs.declared.splices.Splice.{Splice}

-- the splices fall, and the starts are those of the text before them
pub record IsKept (text : List ℕ) (splices : List Splice) (size : ℕ) (starts : List ℕ) (least : Option ℕ) : Type 0 where
  pub counted : size ≡ length (spliced text splices)
  pub falls : Fall text (length text) splices
  pub behind : AreBehind text splices least
  pub own_starts : starts ≡ line_starts text

abbrev pub IsKeptIn : Draft → Type 0
IsKeptIn draft = IsKept (string_bytes draft.text) draft.splices.items draft.size draft.starts.items draft.least

-- the text that a draft stands for
abbrev pub text_of : Draft → List ℕ
text_of draft = spliced (string_bytes draft.text) draft.splices.items

-- a draft that wasn't edited yet
pub record IsNewDraft (draft : Draft) : Type 0 where
  pub splices : draft.splices.items ≡ []
  pub size : draft.size ≡ length (string_bytes draft.text)
  pub starts : draft.starts.items ≡ line_starts (string_bytes draft.text)
  pub least : draft.least ≡ None
  pub skipped : draft.skipped ≡ false
  pub ends : draft.ends ≡ None

-- what the changes of a list leave, which is within the limit
pub record IsMade (limit : ℕ) (end : Progress) (draft : Draft) : Type 0 where
  pub text : text_of draft ≡ end.text
  pub skipped : draft.skipped ≡ end.skipped
  pub fits : length (text_of draft) ≤ limit
  pub falls : Fall (string_bytes draft.text) (length (string_bytes draft.text)) draft.splices.items

-- a draft and the rebuilds so far
abbrev pub progress : Draft → ℕ → Progress
progress draft rebuilds = record { text = text_of draft; least = draft.least; skipped = draft.skipped; rebuilds = rebuilds }
