-- The session behind its last batch.
use Rattle.std.specs.Prelude.{◌≡◌, ℕ, ◌+◌, Bool, true, is_some, List, ◌++◌, Some, if◌then◌else◌}
use Rattle.std.specs.FinMap as map
use Rattle.std.specs.List.{list_any}
use Rattle.docs_vfs.specs.FileUrls.{url_of}
use Rattle.docs_vfs.specs.Files.{path_at}
use Rattle.docs_vfs.specs.declared.file_kinds.FileId.{FileId}
use Rattle.lsp_types.specs.declared.diagnostic.Diagnostic.{Diagnostic}
use Rattle.op_board.specs.Board.{is_above, list_of}
use Rattle.op_board.specs.Checks.{checks_of}
use Rattle.op_board.specs.Diagnostics.{in_order}
use Rattle.op_board.specs.Runs.{same_file}
use Rattle.analysis_host.specs.SnapshotData.{SnapshotData}
use Rattle.desk.specs.Meaning.{Meaning}
use Rattle.op_board.specs.declared.diagnostic.NativePass.TheVariants.{Syntax, Semantic}
use Rattle.session_model.specs.Diagnosing.{subscribed}
use Rattle.session_model.specs.Run.{Turn}
use Rattle.session_model.specs.State.{State}
use Rattle.diagnostics_laws.specs.Batches.{brought}
use Rattle.diagnostics_laws.specs.Shown.{shown_at, told_list}
use Rattle.trust_laws.specs.CameBack.{found}

-- the world, the open documents, those that are shown and whether a fetch has ended are as they were where a batch was
-- asked for, and no file was cleared since the batch took its generation
pub record IsAsAtBatch (at last : State) : Type 0 where
  pub world : last.files.host.world ≡ at.files.host.world
  pub documents : map.keys last.files.versions ≡ map.keys at.files.versions
  pub files : subscribed last.files ≡ subscribed at.files
  pub fetched : is_some last.workspaces.fetches.queue.last ≡ is_some at.workspaces.fetches.queue.last
  pub uncleared : (file : ℕ) → is_above (map.get last.board.cleared file) (at.board.generation + 1) ≡ true

-- at the URL of each file for which the jobs of the last generation have brought lists of both passes these are shown,
-- in order, and then what checks have found
abbrev pub ShowsBrought : List Turn → State → Type 0
ShowsBrought turns s = (file : FileId) (path : List ℕ) (by_syntax by_meaning : List Diagnostic)
    → path_at s.files.table file ≡ Some path
    → brought turns Syntax s.board.generation file ≡ Some by_syntax → brought turns Semantic s.board.generation file ≡ Some by_meaning
    → shown_at (url_of path) turns ≡ told_list (in_order by_syntax ++ in_order by_meaning ++ checks_of file s.board.checks)

-- the file is that of an open document which is shown
abbrev pub is_shown : State → FileId → Bool
is_shown s file = list_any (same_file file) (subscribed s.files)

-- of a file's meaning is shown what the analysis finds on this snapshot, once a fetch of workspaces has ended; before
-- that it isn't asked, and what the board has stands
abbrev pub shown_by_meaning : Meaning → SnapshotData → FileId → State → List Diagnostic
shown_by_meaning meaning snapshot file s =
    if is_some s.workspaces.fetches.queue.last then in_order (found meaning snapshot Semantic file)
    else list_of (map.get s.board.semantic file.0)

-- at the URL of each file that is shown stands what the analysis finds in it on this snapshot, by its syntax and by its
-- meaning, each in order, and then what checks have found
abbrev pub ShowsFound : Meaning → SnapshotData → List Turn → State → Type 0
ShowsFound meaning snapshot turns s = (file : FileId) (path : List ℕ) → path_at s.files.table file ≡ Some path
    → is_shown s file ≡ true
    → shown_at (url_of path) turns
    ≡ told_list (in_order (found meaning snapshot Syntax file) ++ shown_by_meaning meaning snapshot file s
    ++ checks_of file s.board.checks)
