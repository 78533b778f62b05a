-- What a client is shown of files: the list that was published last at each URL.
use Rattle.std.specs.Prelude.{◌≡◌, ℕ, ◌<◌, List, [], ◌∷◌, All, bytes_eq, map as each, Option, Some, if◌then◌else◌}
use Rattle.std.specs.List.{flat_map}
use Rattle.std.specs.FinMap as map
use Rattle.serde_json.specs.Data.{Data}
use Rattle.docs_vfs.specs.FileUrls.{url_of}
use Rattle.docs_vfs.specs.Files.{Files, path_at}
use Rattle.docs_vfs.specs.declared.file_kinds.FileId.{FileId}
use Rattle.lsp_types.specs.Values.{diagnostic_value, list_value}
use Rattle.lsp_types.specs.declared.diagnostic.Diagnostic.{Diagnostic}
use Rattle.op_board.specs.Board.{diagnostics_of}
use Rattle.session_model.specs.Diagnosing.{told_diagnostic}
use Rattle.session_model.specs.Run.{Turn}
use Rattle.session_model.specs.State.{State}
use Rattle.session_laws.specs.Published.{Published, published_among}

-- ---- what is shown

-- the last list that was published at a URL, else the one before
abbrev pub shown_past : List Published → List ℕ → Data → Data
shown_past [] url list = list
shown_past (published ∷ later) url list = shown_past later url (if bytes_eq published.url url then published.list else list)

-- a list of diagnostics, as a client is told it
abbrev pub told_list : List Diagnostic → Data
told_list list = list_value diagnostic_value (each told_diagnostic list)

-- what is shown at a URL behind these turns: nothing, where nothing was published there
abbrev pub shown_at : List ℕ → List Turn → Data
shown_at url turns = shown_past (flat_map (λ (turn : Turn). published_among turn.messages) turns) url (told_list [])

-- ---- what it is to be

-- each path of the table is a string of bytes
abbrev pub HasBytePaths : Files → Type 0
HasBytePaths table = (file : FileId) (path : List ℕ) → path_at table file ≡ Some path → All (λ b. b < 256) path

-- what is shown at the URL of each file is what the board has of the file, and no file is left of which the client is to
-- be told
pub record ShowsBoard (turns : List Turn) (s : State) : Type 0 where
  pub shown : (file : FileId) (path : List ℕ) → path_at s.files.table file ≡ Some path
      → shown_at (url_of path) turns ≡ told_list (diagnostics_of file s.board)
  pub unmarked : s.board.marked ≡ map.empty
