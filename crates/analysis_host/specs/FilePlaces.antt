-- The places in a snapshot's files that positions and ranges of a client name.
use Rattle.std.specs.Prelude.{◌≡◌, ◌⊎◌, ℕ, ℤ, Bool, false, List, Option, Some, None, Result, Ok, Err, MatchResult}
use Rattle.std.specs.Prelude.{if◌then◌else◌}
use Rattle.std.specs.Ordering.{int_eq}
use Rattle.docs_vfs.specs.FileUrls.{path_of}
use Rattle.docs_vfs.specs.declared.file_kinds.FileId.{FileId}
use Rattle.docs_vfs.specs.declared.file_url.UrlFault.{UrlFault}
use Rattle.text_core.specs.Positions.{place_of, range_of as places_of}
use Rattle.text_core.specs.declared.position.Position.{Position}
use Rattle.text_core.specs.declared.position.OffsetFault.{OffsetFault}
use Rattle.text_core.specs.declared.position.Range.{Range}
use Rattle.analysis_host.specs.SnapshotData.{SnapshotData, encoding_of}
use Rattle.analysis_host.specs.SnapshotFiles.{file_text, named_file, named_version}
use Rattle.analysis_host.specs.declared.lens.Annotation.{Annotation}
use Rattle.analysis_host.specs.declared.lens.LensKind.{LensKind}
use Rattle.analysis_host.specs.declared.lens.LensResolve.{LensResolve}
use Rattle.analysis_host.specs.declared.file_places.FilePosition.{FilePosition}
use Rattle.analysis_host.specs.declared.file_places.FileRange.{FileRange}
use Rattle.analysis_host.specs.declared.proto_fault.ProtoFault.{ProtoFault}
use Rattle.analysis_host.specs.declared.proto_fault.ProtoFault.TheVariants.{NotFound, Offset, NoMemory}

-- ---- places in a file

-- a place in a text
abbrev pub placed : {P F : Type 0} → (P → F) → Result P OffsetFault → Result F ProtoFault
placed at (Err fault) = Err (Offset fault)
placed at (Ok place) = Ok (at place)

-- the same, where there is a text
abbrev pub in_text : {P F : Type 0} → (P → F) → (List ℕ → Result P OffsetFault) → Option (List ℕ) → Result F ProtoFault
in_text at find None = Err NotFound
in_text at find (Some text) = placed at (find text)

-- the place of a position
abbrev pub position_in : SnapshotData → Position → FileId → Result FilePosition ProtoFault
position_in snapshot position file =
    in_text (λ place. record { file = file; offset = place }) (λ text. place_of (encoding_of snapshot) text position)
    (file_text snapshot file)

-- the places of a range
abbrev pub range_in : SnapshotData → Range → FileId → Result FileRange ProtoFault
range_in snapshot range file =
    in_text (λ places. record { file = file; start = places.0; end = places.1 })
    (λ text. places_of (encoding_of snapshot) text range) (file_text snapshot file)

-- ---- in the file that a URL names

abbrev pub found : {F : Type 0} → Result F ProtoFault → Result (Option F) ProtoFault
found (Err fault) = Err fault
found (Ok it) = Ok (Some it)

-- what is found in a file; nothing where it is excluded
abbrev pub in_file : {F : Type 0} → (FileId → Result F ProtoFault) → Result (Option FileId) ProtoFault
    → Result (Option F) ProtoFault
in_file find (Err fault) = Err fault
in_file find (Ok None) = Ok None
in_file find (Ok (Some file)) = found (find file)

abbrev pub file_position : SnapshotData → List ℕ → Position → Result (Option FilePosition) ProtoFault
file_position snapshot url position = in_file (position_in snapshot position) (named_file snapshot (path_of url))

abbrev pub file_range : SnapshotData → List ℕ → Range → Result (Option FileRange) ProtoFault
file_range snapshot url range = in_file (range_in snapshot range) (named_file snapshot (path_of url))

-- an answer, but for want of memory
abbrev pub Finds : {T : Type 0} → Result T ProtoFault → Result T ProtoFault → Type 0
Finds result expected = MatchResult result (λ x. expected ≡ Ok x) (λ e. (e ≡ NoMemory) ⊎ (expected ≡ Err e))

-- ---- annotations of lenses

-- the version that a document has
abbrev pub has_version : ℤ → Option ℤ → Bool
has_version version None = false
has_version version (Some present) = int_eq present version

-- a lens's position is read before the range
abbrev pub annotated : LensKind → Result FilePosition ProtoFault → Result FileRange ProtoFault
    → Result Annotation ProtoFault
annotated kind (Err fault) range = Err fault
annotated kind (Ok pos) (Err fault) = Err fault
annotated kind (Ok pos) (Ok range) = Ok (record { start = range.start; end = range.end; kind = kind; pos = pos })

abbrev pub annotation_in : SnapshotData → Range → LensResolve → FileId → Result Annotation ProtoFault
annotation_in snapshot range lens file = annotated lens.kind (position_in snapshot lens.position file)
    (range_in snapshot range file)

-- nothing where the document no longer has the lens's version
abbrev pub annotation_of : SnapshotData → Range → LensResolve → Result (List ℕ) UrlFault
    → Result (Option Annotation) ProtoFault
annotation_of snapshot range lens named =
    if has_version lens.version (named_version snapshot named) then in_file (annotation_in snapshot range lens)
    (named_file snapshot named) else Ok None

abbrev pub annotation : SnapshotData → Range → LensResolve → Result (Option Annotation) ProtoFault
annotation snapshot range lens = annotation_of snapshot range lens (path_of lens.url)
