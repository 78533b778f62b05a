-- What a notification tells, by its method and params (LSP 3.17, and this server's own notifications).
use Rattle.std.specs.Prelude.{◌≡◌, ◌<◌, ◌^◌, ℕ, Bool, true, false, List, [], ◌∷◌, length, codes, bytes_eq, find, Option, None, Some, option_map}
use Rattle.std.specs.Prelude.{Result, Ok, Err, IfSome, if◌then◌else◌}
use Rattle.std.specs.Option.{option_map_or}
use Rattle.plain.specs.Plain.{is_plain}
use Rattle.serde_json.specs.Data.{Data}
use Rattle.lsp_frame.specs.declared.message.Notification.{Notification}
use Rattle.method_table.specs.Unit.{is_unit}
use Rattle.notify.specs.Cancelling.{request_in, token_in}
use Rattle.notify.specs.Changing.{changed_in}
use Rattle.lsp_types.specs.Documents.{take_document_uri}
use Rattle.notify.specs.Flychecks.{checked_in}
use Rattle.notify.specs.Opening.{opened_in}
use Rattle.notify.specs.Uris.{folders_in, watched_in}
use Rattle.notify.specs.declared.fault.NoticeFault.{NoticeFault}
use Rattle.notify.specs.declared.fault.NoticeFault.TheVariants.{Malformed, NoMemory}
use Rattle.notify.specs.declared.notice.Notice.{Notice}
use Rattle.notify.specs.declared.notice.Notice.TheVariants.{CancelRequest, CancelProgress, DidOpen, DidChange, DidClose, DidSave}
use Rattle.notify.specs.declared.notice.Notice.TheVariants.{DidChangeConfiguration, DidChangeWatchedFiles, CancelFlycheck, ClearFlycheck, RunFlycheck}
use Rattle.notify.specs.declared.notice.Notice.TheVariants.{AbortRunTest}

-- how the params of a method are read; none where they are malformed
pub record Reader : Type 0 where
  pub method : List ℕ
  pub read : Data → Option Notice

abbrev pub reader : List ℕ → (Data → Option Notice) → Reader
reader method read = record { method = method; read = read }

-- a notice of what is read
abbrev pub telling : {T : Type 0} → (T → Notice) → (Data → Option T) → Data → Option Notice
telling notice read params = option_map notice (read params)

-- a notice whose params say nothing
abbrev pub bare : Notice → Data → Option Notice
bare notice params = if is_unit params then Some notice else None

unfoldable pub readers : List Reader
readers =
    reader (codes "$/cancelRequest") (telling CancelRequest request_in) ∷
    reader (codes "window/workDoneProgress/cancel") (telling CancelProgress token_in) ∷
    reader (codes "textDocument/didOpen") (telling DidOpen opened_in) ∷
    reader (codes "textDocument/didChange") (telling DidChange changed_in) ∷
    reader (codes "textDocument/didClose") (telling DidClose take_document_uri) ∷
    reader (codes "textDocument/didSave") (telling DidSave take_document_uri) ∷
    reader (codes "workspace/didChangeConfiguration") (λ params. Some DidChangeConfiguration) ∷
    reader (codes "workspace/didChangeWorkspaceFolders") folders_in ∷
    reader (codes "workspace/didChangeWatchedFiles") (telling DidChangeWatchedFiles watched_in) ∷
    reader (codes "rust-analyzer/cancelFlycheck") (bare CancelFlycheck) ∷
    reader (codes "rust-analyzer/clearFlycheck") (bare ClearFlycheck) ∷
    reader (codes "rust-analyzer/runFlycheck") (telling RunFlycheck checked_in) ∷
    reader (codes "experimental/abortRunTest") (bare AbortRunTest) ∷ []

abbrev pub has_method : List ℕ → Reader → Bool
has_method method r = bytes_eq method r.method

-- the reader of a method, if the table has one
abbrev pub reader_of : List ℕ → Option (Data → Option Notice)
reader_of method = option_map (λ r. r.read) (find (has_method method) readers)

-- what is read of params, which must be plain
abbrev pub judged : Bool → Option Notice → Result (Option Notice) NoticeFault
judged true (Some notice) = Ok (Some notice)
judged true None = Err Malformed
judged false read = Err Malformed

-- none where the table hasn't the method
unfoldable pub reading_of : Notification → Result (Option Notice) NoticeFault
reading_of n = option_map_or (λ read. judged (is_plain n.params) (read n.params)) (reader_of n.method) (Ok None)

-- an answer, but for want of memory
abbrev pub Reads : Result (Option Notice) NoticeFault → Result (Option Notice) NoticeFault → Type 0
Reads (Ok notice) expected = expected ≡ Ok notice
Reads (Err Malformed) expected = expected ≡ Err Malformed
Reads (Err NoMemory) expected = Unit {0}

-- a world can hold the text of a document that is opened
abbrev pub FitsWorld : Notice → Type 0
FitsWorld (DidOpen document) = length document.text < 2 ^ 32
FitsWorld other = Unit {0}

abbrev pub FitsWorldIfRead : Option Notice → Type 0
FitsWorldIfRead read = IfSome read FitsWorld
