-- What a snapshot says of its files, which queries name by their numbers.
use Rattle.std.specs.Prelude.{◌≡◌, ℕ, ℤ, Bool, true, false, is_some, IsSome, List, Option, None, Some, option_and_then}
use Rattle.std.specs.Prelude.{Result, Ok, Err}
use Rattle.std.specs.Arc.{arc_value}
use Rattle.std.specs.Option.{option_map, unwrap_or}
use Rattle.std.specs.FinMap as map
use Rattle.docs_vfs.specs.FileUrls.{url_of}
use Rattle.docs_vfs.specs.Paths.{parent_of}
use Rattle.docs_vfs.specs.Resolve.{resolve}
use Rattle.docs_vfs.specs.declared.file_kinds.FileExcluded.{FileExcluded}
use Rattle.docs_vfs.specs.declared.file_kinds.FileExcluded.TheVariants.{Yes, No}
use Rattle.docs_vfs.specs.declared.file_kinds.FileId.{FileId}
use Rattle.docs_vfs.specs.declared.file_url.UrlFault.{UrlFault}
use Rattle.docs_vfs.specs.declared.relative.EmptySegments.TheVariants.{Dropped}
use Rattle.file_ids.specs.Numbers.{path_of}
use Rattle.text_core.specs.declared.text_index.LineIndex.{LineIndex}
use Rattle.analysis_host.specs.SnapshotData.{SnapshotData, encoding_of, text_at, text_of}
use Rattle.analysis_host.specs.declared.proto_fault.ProtoFault.{ProtoFault}
use Rattle.analysis_host.specs.declared.proto_fault.ProtoFault.TheVariants.{Url, NotFound}
use Rattle.analysis_host.specs.declared.text_entry.TextEntry.{TextEntry}

-- ---- from a number

-- the path that has the number
abbrev pub path_at : SnapshotData → FileId → Option (List ℕ)
path_at snapshot file = path_of snapshot.file_ids file

-- it is a number of the snapshot
abbrev pub IsFile : SnapshotData → FileId → Type 0
IsFile snapshot file = IsSome (path_at snapshot file)

abbrev pub is_kept : FileExcluded → Bool
is_kept Yes = false
is_kept No = true

-- there is an entry, of a file that isn't excluded
abbrev pub is_included : Option (FileId × FileExcluded) → Bool
is_included None = false
is_included (Some entry) = is_kept entry.1

-- the numbers of the files hold this one as not excluded
abbrev pub file_exists : SnapshotData → FileId → Bool
file_exists snapshot file = is_included (option_and_then (map.get snapshot.file_ids) (path_at snapshot file))

-- a file's text with its line endings
abbrev pub file_entry : SnapshotData → FileId → Option TextEntry
file_entry snapshot file = option_and_then (map.get snapshot.world.texts) (path_at snapshot file)

-- a file's text
abbrev pub file_text : SnapshotData → FileId → Option (List ℕ)
file_text snapshot file = text_of (file_entry snapshot file)

-- the index of a file's text, with its line endings and what a column counts
pub record IsLineIndexOf (snapshot : SnapshotData) (file : FileId) (found : LineIndex) : Type 0 where
  pub entry : file_entry snapshot file ≡ Some (record { text = arc_value found.index; endings = found.endings })
  pub encoding : found.encoding ≡ encoding_of snapshot

-- the version of a file that is open
abbrev pub file_version : SnapshotData → FileId → Option ℤ
file_version snapshot file = option_and_then (map.get snapshot.versions) (path_at snapshot file)

abbrev pub file_url : SnapshotData → FileId → Option (List ℕ)
file_url snapshot file = option_map url_of (path_at snapshot file)

-- the folder that a path lies in; `/` is its own
abbrev pub folder_of : List ℕ → List ℕ
folder_of path = unwrap_or (parent_of path) path

-- the path that a text is, taken from the folder of another path
abbrev pub beside : List ℕ → List ℕ → Option (List ℕ)
beside path text = resolve Dropped (folder_of path) text

-- the URL of the path that a text is, taken from the folder of a file
abbrev pub url_beside : SnapshotData → FileId → List ℕ → Option (List ℕ)
url_beside snapshot anchor text = option_map url_of
    (option_and_then (λ path. beside path text) (path_at snapshot anchor))

-- ---- to a number

-- the number of a file by its entry: none where it is excluded; a file that isn't needs a text
abbrev pub number_by : FileId → FileExcluded → Bool → Result (Option FileId) ProtoFault
number_by file Yes has_text = Ok None
number_by file No false = Err NotFound
number_by file No true = Ok (Some file)

abbrev pub number_from : Option (FileId × FileExcluded) → Bool → Result (Option FileId) ProtoFault
number_from None has_text = Err NotFound
number_from (Some entry) has_text = number_by entry.0 entry.1 has_text

-- the number of a path's file
abbrev pub path_to_file : SnapshotData → List ℕ → Result (Option FileId) ProtoFault
path_to_file snapshot path = number_from (map.get snapshot.file_ids path) (is_some (text_at snapshot.world path))

-- the text of a file that was found, or none where it is excluded, or the fault
abbrev pub found_text : SnapshotData → Result (Option FileId) ProtoFault → Result (Option (List ℕ)) ProtoFault
found_text snapshot (Err fault) = Err fault
found_text snapshot (Ok None) = Ok None
found_text snapshot (Ok (Some file)) = Ok (file_text snapshot file)

-- the text of a path's file, by its number
abbrev pub path_text : SnapshotData → List ℕ → Result (Option (List ℕ)) ProtoFault
path_text snapshot path = found_text snapshot (path_to_file snapshot path)

-- the same of the path that a URL names
abbrev pub named_file : SnapshotData → Result (List ℕ) UrlFault → Result (Option FileId) ProtoFault
named_file snapshot (Err fault) = Err (Url fault)
named_file snapshot (Ok path) = path_to_file snapshot path

-- the version of the open document that a URL names
abbrev pub named_version : SnapshotData → Result (List ℕ) UrlFault → Option ℤ
named_version snapshot (Err fault) = None
named_version snapshot (Ok path) = map.get snapshot.versions path
