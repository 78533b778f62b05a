-- Diagnostics: which files they are shown of, which jobs find them, and what a client is told.
use Rattle.std.specs.Prelude.{ℕ, zero, suc, ◌/◌, ◌&&◌, ◌||◌, not, max, Bool, true, false, List, [], ◌∷◌, ◌++◌, codes}
use Rattle.std.specs.Prelude.{length, take, drop, map as each, Option, None, Some, is_some, is_ok, if◌then◌else◌}
use Rattle.std.specs.Int.{div_ceil}
use Rattle.std.specs.List.{filter_map, flat_map}
use Rattle.std.specs.Option.{option_map}
use Rattle.std.specs.FinMap as map
use Rattle.docs_vfs.specs.FileUrls.{path_of, url_of}
use Rattle.docs_vfs.specs.Files.{Files, path_at}
use Rattle.docs_vfs.specs.Roots.{is_local_at, root_of}
use Rattle.docs_vfs.specs.declared.file_kinds.ChangeKind.{ChangeKind}
use Rattle.docs_vfs.specs.declared.file_kinds.ChangeKind.TheVariants.{Create, Modify, Delete}
use Rattle.docs_vfs.specs.declared.file_kinds.ChangedFile.{ChangedFile}
use Rattle.docs_vfs.specs.declared.file_kinds.FileExcluded.{FileExcluded}
use Rattle.docs_vfs.specs.declared.file_kinds.FileId.{FileId}
use Rattle.docs_vfs.specs.declared.source_roots.Root.{Root}
use Rattle.layered_settings.specs.Search.{setting}
use Rattle.lsp_types.specs.declared.diagnostic.Diagnostic.{Diagnostic}
use Rattle.lsp_types.specs.declared.diagnostic.Related.{Related}
use Rattle.notify.specs.declared.notice.Notice.{Notice}
use Rattle.notify.specs.declared.notice.Notice.TheVariants.{DidOpen, DidClose}
use Rattle.notify.specs.declared.outgo.Outgo.{Outgo}
use Rattle.notify.specs.declared.outgo.Outgo.TheVariants.{DiscoveredTests, Publish}
use Rattle.op_board.specs.Acts.{Act, gives, step as after_act, steps as after_acts}
use Rattle.op_board.specs.Acts.Act.{Clears, Counts, Forgets, ForgetsIn, ForgetsOlder, ForgetsOlderIn}
use Rattle.op_board.specs.Board.{Board, diagnostics_of, next_generation}
use Rattle.op_board.specs.declared.check_package.CheckEntry.{CheckEntry}
use Rattle.op_board.specs.declared.diagnostic.CheckFix.{CheckFix}
use Rattle.op_board.specs.declared.diagnostic.NativePass.{NativePass}
use Rattle.op_board.specs.declared.diagnostic.NativePass.TheVariants.{Syntax, Semantic}
use Rattle.ra_config.specs.Config.{ConfigData, thread_count_of}
use Rattle.ra_settings.specs.declared.row.Row.TheVariants.{DiagnosticsEnable, NumThreads}
use Rattle.serde_json.specs.Data.{Data}
use Rattle.session_files.specs.SessionFiles.{SessionFiles}
use Rattle.session_model.specs.Crates.{loaded_as}
use Rattle.session_model.specs.State.{State, truth_in}
use Rattle.session_port.specs.declared.job.JobKind.{JobKind}
use Rattle.session_port.specs.declared.job.JobKind.TheVariants.{Diagnostics, Tests}

-- ---- the files that are shown

-- the path lies in a local one of these roots
abbrev pub is_local_path : List Root → List ℕ → Bool
is_local_path roots path = is_local_at roots (root_of roots path)

-- the file of an open document that is shown: one that is neither excluded nor outside the local roots of the world
abbrev pub shown_file : SessionFiles → List ℕ → Option FileId
shown_file files path = if is_local_path files.host.world.roots path then loaded_as files.ids path else None

-- the files of all of them, in the order of their paths
unfoldable pub subscribed : SessionFiles → List FileId
subscribed files = filter_map (shown_file files) (map.keys files.versions)

-- ---- a batch

-- how many files the first of so many slices has: they are shared evenly, rounded up
abbrev pub first_length : ℕ → List FileId → ℕ
first_length count files = div_ceil (length files) count

-- so many slices of files, of which the first ones are one longer; an empty slice ends them
abbrev pub slices : ℕ → List FileId → List (List FileId)
slices zero files = []
slices (suc others) [] = []
slices (suc others) (file ∷ files) =
    take (first_length (suc others) (file ∷ files)) (file ∷ files)
    ∷ slices others (drop (first_length (suc others) (file ∷ files)) (file ∷ files))

-- a slice for each four threads, and at least one
abbrev pub slice_count : ConfigData → ℕ
slice_count settings = max (thread_count_of (setting NumThreads None settings.settings) settings.threads / 4) 1

-- what is asked of a slice: its syntax, and, once a fetch of workspaces has ended, its meaning
abbrev pub slice_kinds : ℕ → Bool → List FileId → List JobKind
slice_kinds generation fetched files =
    Diagnostics generation Syntax files ∷ (if fetched then Diagnostics generation Semantic files ∷ [] else [])

abbrev pub list_kinds : ℕ → Bool → List (List FileId) → List JobKind
list_kinds generation fetched slices = flat_map (slice_kinds generation fetched) slices

-- what a batch asks of the analysis, where it has a generation
abbrev pub lists_asked : Option ℕ → State → List JobKind
lists_asked None s = []
lists_asked (Some generation) s =
    list_kinds generation (is_some s.workspaces.fetches.queue.last)
    (slices (slice_count s.client.settings) (subscribed s.files))

-- the tests of files are asked for, unless there are none
abbrev pub tests_asked : List FileId → List JobKind
tests_asked [] = []
tests_asked (file ∷ files) = Tests (file ∷ files) ∷ []

-- diagnostics are shown: the setting `diagnostics.enable`, and the client doesn't ask for them itself
abbrev pub shows_diagnostics : ConfigData → Bool
shows_diagnostics settings =
    truth_in (setting DiagnosticsEnable None settings.settings) && not settings.capabilities.text_document_diagnostic

-- all that a batch asks of the analysis
unfoldable pub batch_kinds : State → List JobKind
batch_kinds s =
    (if shows_diagnostics s.client.settings then lists_asked (next_generation s.board) s else [])
    ++ (if s.client.settings.capabilities.test_explorer then tests_asked (subscribed s.files) else [])

-- the board once a batch has taken its generation; none is taken behind the greatest one
abbrev pub counted : Board → Board
counted board = if is_some (next_generation board) then after_act Counts board else board

-- a batch takes one where diagnostics are shown
abbrev pub batch_counted : ConfigData → Board → Board
batch_counted settings board = if shows_diagnostics settings then counted board else board

-- a notice opens or closes a document
abbrev pub opens_or_closes : Option Notice → Bool
opens_or_closes None = false
opens_or_closes (Some (DidOpen document)) = is_ok (path_of document.uri)
opens_or_closes (Some (DidClose uri)) = is_ok (path_of uri)
opens_or_closes (Some other) = false

-- a batch is due in a session that has come to be quiescent, and in one that is quiescent and whose files were
-- processed behind the event or whose documents came or went with it
abbrev pub is_batch_due : Bool → Bool → Bool → Bool → Bool
is_batch_due was_quiescent is_quiescent processed came_or_went =
    is_quiescent && (not was_quiescent || (processed || came_or_went))

-- ---- lists that come and go

-- lists of files came, of a pass and a generation
abbrev pub lists_given : ℕ → NativePass → List (FileId × List Diagnostic) → Board → Board
lists_given generation pass lists board = after_acts (gives pass generation lists []) board

-- the lists of a file are emptied, where there is a file
abbrev pub lists_cleared : Option (FileId × FileExcluded) → Board → Board
lists_cleared None board = board
lists_cleared (Some file) board = after_act (Clears file.0) board

abbrev pub is_deletion : ChangeKind → Bool
is_deletion Create = false
is_deletion Modify = false
is_deletion Delete = true

-- those of files that were deleted
abbrev pub deleted_cleared : List ChangedFile → Board → Board
deleted_cleared [] board = board
deleted_cleared (file ∷ files) board =
    deleted_cleared files (if is_deletion file.kind then after_act (Clears file.file) board else board)

-- ---- what checks find

abbrev pub fix_in : FileId → Option Data → Option CheckFix
fix_in file fix = option_map (λ action. record { file = file; action = action }) fix

-- what a check found in a file, and what it offers to mend it
abbrev pub found_in : FileId → Diagnostic → Option Data → CheckEntry
found_in file diagnostic fix = record { file = file; diagnostic = diagnostic; fix = fix_in file fix }

-- what is out of date is forgotten: of a package or of all, before a generation or of each
abbrev pub outdated_act : ℕ → Option (Option (List ℕ)) → Option ℕ → Act
outdated_act id None None = Forgets id
outdated_act id (Some of_package) None = ForgetsIn id of_package
outdated_act id None (Some generation) = ForgetsOlder id generation
outdated_act id (Some of_package) (Some generation) = ForgetsOlderIn id of_package generation

-- ---- what a client is told

-- an empty message is told as a space
abbrev pub told_message : List ℕ → List ℕ
told_message [] = codes " "
told_message (code ∷ later) = code ∷ later

abbrev pub told_related : Related → Related
told_related related = record related { message = told_message related.message }

abbrev pub told_diagnostic : Diagnostic → Diagnostic
told_diagnostic diagnostic = record diagnostic {
  message = told_message diagnostic.message;
  related = each told_related diagnostic.related;
}

-- what is wrong in a file with this path, and the version of its document, where it is open
abbrev pub publication : SessionFiles → Board → FileId → List ℕ → Outgo
publication files board file path =
    Publish (each told_diagnostic (diagnostics_of file board)) (url_of path) (map.get files.versions path)

-- the URLs of files
abbrev pub url_at : Files → FileId → Option (List ℕ)
url_at table file = option_map url_of (path_at table file)

abbrev pub urls_of : Files → List FileId → List (List ℕ)
urls_of table files = filter_map (url_at table) files

-- the tests of files
abbrev pub tests_told : Files → List FileId → List Data → Outgo
tests_told table files tests = DiscoveredTests (urls_of table files) tests
