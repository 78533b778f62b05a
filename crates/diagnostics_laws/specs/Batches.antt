-- Batches, by the generations that the board gives them.
use Rattle.std.specs.Prelude.{◌≡◌, ◌≤◌, ◌&&◌, ℕ, List, [], ◌∷◌, true, nat_eq, Option, None, Some, if◌then◌else◌}
use Rattle.std.specs.FinMap as map
use Rattle.docs_vfs.specs.declared.file_kinds.FileId.{FileId}
use Rattle.lsp_types.specs.declared.diagnostic.Diagnostic.{Diagnostic}
use Rattle.op_board.specs.Board.{Board, is_above, list_of, lists_of}
use Rattle.op_board.specs.Diagnostics.{in_order}
use Rattle.op_board.specs.Runs.{same_file, same_pass}
use Rattle.op_board.specs.declared.diagnostic.NativePass.{NativePass}
use Rattle.op_board.specs.declared.pass_list.PassList.{PassList}
use Rattle.session_port.specs.Jobs.{Jobs, jobs_after}
use Rattle.session_port.specs.declared.event.TaskMsg.{TaskMsg}
use Rattle.session_port.specs.declared.job.Job.{Job}
use Rattle.session_port.specs.declared.job.JobKind.TheVariants.{Diagnostics}
use Rattle.desk.specs.WorkEnds.{work_ended}
use Rattle.desk.specs.declared.state.ends.WorkEnd.{WorkEnd}
use Rattle.desk.specs.declared.state.ends.WorkEnd.TheVariants.{Diagnosed}
use Rattle.session_model.specs.Inputs.{batch_of}
use Rattle.session_model.specs.Run.{Turn, out_after}

-- no list that is stored, no mark of a file that was cleared, and no job out is of a later generation than the last one
-- of the board
pub record HasGenerations (board : Board) (jobs : Jobs) : Type 0 where
  pub stored : (pass : NativePass) (file : ℕ) (list : PassList) → map.get (lists_of pass board) file ≡ Some list
      → list.accepted ≤ board.generation
  pub cleared : (file last : ℕ) → map.get board.cleared file ≡ Some last → last ≤ board.generation
  pub out : (number : ℕ) (job : Job) (generation : ℕ) (pass : NativePass) (files : List FileId)
      → map.get jobs number ≡ Some job → job.kind ≡ Diagnostics generation pass files → generation ≤ board.generation

-- ---- what jobs bring

-- the list for a file among these, of several the last, else the one before
abbrev pub list_among : FileId → List (FileId × List Diagnostic) → Option (List Diagnostic) → Option (List Diagnostic)
list_among file [] before = before
list_among file (given ∷ lists) before = list_among file lists (if same_file file given.0 then Some given.1 else before)

-- what an end of a job brings for a file, in a pass and a generation
abbrev pub brought_by : Option WorkEnd → NativePass → ℕ → FileId → Option (List Diagnostic) → Option (List Diagnostic)
brought_by (Some (Diagnosed of_generation of_pass lists)) pass generation file before =
    if same_pass pass of_pass && nat_eq generation of_generation then list_among file lists before else before
brought_by other pass generation file before = before

-- what messages bring, where these jobs are out: of several lists the last, else the one before
abbrev pub brought_past : List TaskMsg → Jobs → NativePass → ℕ → FileId → Option (List Diagnostic) → Option (List Diagnostic)
brought_past [] out pass generation file before = before
brought_past (message ∷ messages) out pass generation file before =
    brought_past messages (jobs_after message out) pass generation file
    (brought_by (work_ended message out) pass generation file before)

abbrev pub brought_in : List Turn → Jobs → NativePass → ℕ → FileId → Option (List Diagnostic) → Option (List Diagnostic)
brought_in [] out pass generation file before = before
brought_in (turn ∷ turns) out pass generation file before =
    brought_in turns (out_after turn out) pass generation file (brought_past (batch_of turn.input) out pass generation file before)

-- the list that the jobs of turns brought last for a file, in a pass and a generation
abbrev pub brought : List Turn → NativePass → ℕ → FileId → Option (List Diagnostic)
brought turns pass generation file = brought_in turns map.empty pass generation file None

-- a list of the last generation that was brought for a file is the one that the board has, in order, unless the file was
-- cleared since
abbrev pub StoresBrought : List Turn → Board → Type 0
StoresBrought turns board = (pass : NativePass) (file : FileId) (list : List Diagnostic)
    → brought turns pass board.generation file ≡ Some list → is_above (map.get board.cleared file.0) board.generation ≡ true
    → list_of (map.get (lists_of pass board) file.0) ≡ in_order list
