-- Runs of the board: what its calls did, one act after another. A run has its last act first.
use Rattle.std.specs.Prelude.{ℕ, ◌+◌, List, [], ◌∷◌, Option, None, Some}
use Rattle.std.specs.FinMap as map
use Rattle.docs_vfs.specs.declared.file_kinds.FileId.{FileId}
use Rattle.lsp_types.specs.declared.diagnostic.Diagnostic.{Diagnostic}
use Rattle.op_board.specs.declared.diagnostic.NativePass.{NativePass}
use Rattle.op_board.specs.declared.check_package.CheckEntry.{CheckEntry}
use Rattle.op_board.specs.Board.{Board, new_board, set_native, clear_native, with_checks, clear_all_checks}
use Rattle.op_board.specs.Checks.{add_check, clear_id, clear_one, clear_older, drops_at}

pub data Act : Type 0 where
  -- the next generation is given
  Counts : Act
  -- a list of a pass and generation comes for a file
  Gives : NativePass → ℕ → FileId → List Diagnostic → Act
  -- both lists of a file are emptied
  Clears : FileId → Act
  -- an entry of a check, generation and package comes
  Adds : ℕ → ℕ → Option (List ℕ) → CheckEntry → Act
  -- a check is forgotten
  Forgets : ℕ → Act
  -- a package of a check is forgotten
  ForgetsIn : ℕ → Option (List ℕ) → Act
  -- the packages of a check that are older than a generation are forgotten
  ForgetsOlder : ℕ → ℕ → Act
  -- a package of a check is forgotten if it is older than a generation
  ForgetsOlderIn : ℕ → Option (List ℕ) → ℕ → Act
  -- all checks are forgotten
  ForgetsAll : Act
  -- the marks are taken
  Takes : Act

-- what an act does to the board
abbrev pub step : Act → Board → Board
step Counts b = record b { generation = b.generation + 1 }
step (Gives pass generation file list) b = set_native pass generation ((file, list) ∷ []) b
step (Clears file) b = clear_native file b
step (Adds id generation name entry) b = with_checks (add_check id generation name entry (b.checks, b.marked)) b
step (Forgets id) b = with_checks (clear_id id (b.checks, b.marked)) b
step (ForgetsIn id name) b = with_checks (clear_one (drops_at None) id name (b.checks, b.marked)) b
step (ForgetsOlder id generation) b = with_checks (clear_older id generation (b.checks, b.marked)) b
step (ForgetsOlderIn id name generation) b = with_checks (clear_one (drops_at (Some generation)) id name (b.checks, b.marked)) b
step ForgetsAll b = clear_all_checks b
step Takes b = record b { marked = map.empty }

-- after a run that begins at this board
abbrev pub steps : List Act → Board → Board
steps [] b = b
steps (act ∷ before) b = step act (steps before b)

-- the board after a run
abbrev pub after : List Act → Board
after run = steps run new_board

-- a run that goes on with a list for each of these files, one after another
abbrev pub gives : NativePass → ℕ → List (FileId × List Diagnostic) → List Act → List Act
gives pass generation [] run = run
gives pass generation (given ∷ more) run = gives pass generation more (Gives pass generation given.0 given.1 ∷ run)
